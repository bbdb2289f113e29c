-- Hints at where groups stand.
use Rattle.std.specs.Prelude.{ℕ, ℤ, ◌≡◌, All, IfSome, Option, Some}
use Rattle.std.specs.Option.{option_cmp}
use Rattle.std.specs.Ordering.{int_cmp}
use Rattle.std.specs.BTreeMap.{BTreeMap, get}
use Rattle.result_shape.specs.declared.hints.Hint.{Hint}
use Rattle.result_shape.specs.declared.hints.Hints.{Hints}

-- a hint is an entry of a map
abbrev pub IsHintAt : BTreeMap (Option ℤ) ℕ → Hint → Type 0
IsHintAt positions hint = get (option_cmp int_cmp) positions (Some hint.number) ≡ Some hint.position

-- each hint that is there is one
abbrev pub AreHintsAt : BTreeMap (Option ℤ) ℕ → Hints → Type 0
AreHintsAt positions hints = All (λ slot. IfSome slot (IsHintAt positions)) hints.slots
