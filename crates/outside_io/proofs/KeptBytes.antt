-- What the loops over a writer and a reader keep: the bytes that went so far, where the other side tells them.
use Rattle.std.proofs.Common.{ℕ, ◌≡◌, ◌≤◌, ◌<◌, ◌+◌, List, [], ◌++◌, Option, Some, None, length, take, drop, sym, ap}
use Rattle.std.proofs.Common.{◌∙◌, append_assoc, append-nil}
use Rattle.std.proofs.Math.Seq.{take-add}
use Rattle.std.proofs.Math.ListN.{drop_of_length-le}
use Rattle.std.proofs.lemmas.List.{take_at, take-append-drop}
use Rattle.std.specs.Io.KnownBytes.{Appends, Consumes, IsAtEnd}
use Rattle.outside_model.specs.Files.{Told, up_to}

-- one write more
pub appends_more : (old now next : Option (List ℕ)) (bytes : List ℕ) (at count : ℕ) → Appends old now (take at bytes)
    → Appends now next (take count (drop at bytes)) → Appends old next (take (at + count) bytes)
appends_more None now next bytes at count so_far more = tt
appends_more (Some xs) None next bytes at count so_far more = absurd so_far
appends_more (Some xs) (Some ys) None bytes at count so_far more = absurd more
appends_more (Some xs) (Some ys) (Some zs) bytes at count so_far more =
    more ∙ ap (λ l. l ++ take count (drop at bytes)) so_far ∙ append_assoc xs _ _
    ∙ ap (λ l. xs ++ l) (sym (take-add at count bytes))

-- enough is read: one byte more than the limit
pub up_to-enough : (old now : Option (List ℕ)) (got : List ℕ) (limit : ℕ) → Consumes old now got
    → length got ≡ limit + 1 → Told old (λ bytes. got ≡ up_to limit bytes)
unfolding up_to
up_to-enough None now got limit so_far enough = tt
up_to-enough (Some xs) None got limit so_far enough = absurd so_far
up_to-enough (Some xs) (Some ys) got limit so_far enough =
    sym (take_at got ys (limit + 1) enough) ∙ ap (take (limit + 1)) (sym so_far)

-- taking as many as there are, or more
take_of_short : (bytes : List ℕ) (count : ℕ) → length bytes ≤ count → take count bytes ≡ bytes
take_of_short bytes count short =
    sym (append-nil (take count bytes)) ∙ ap (λ l. take count bytes ++ l) (sym (drop_of_length-le bytes short))
    ∙ take-append-drop count bytes

-- all is read: the last read gave no byte
pub up_to-ended : (old now next : Option (List ℕ)) (got buffer : List ℕ) (limit count : ℕ) → Consumes old now got
    → length got ≤ limit + 1 → count ≡ 0 → 0 < length buffer
    → (Consumes now next (take count buffer) × (count ≡ 0 → 0 < length buffer → IsAtEnd next))
    → Told old (λ bytes. got ≡ up_to limit bytes)
unfolding up_to
up_to-ended None now next got buffer limit count so_far long none room read = tt
up_to-ended (Some xs) None next got buffer limit count so_far long none room read = absurd so_far
up_to-ended (Some xs) (Some ys) None got buffer limit count so_far long none room read = absurd read.0
up_to-ended (Some xs) (Some ys) (Some zs) got buffer limit count so_far long none room read =
    let last : ys ≡ [] = read.0 ∙ ap (λ n. take n buffer ++ zs) none ∙ read.1 none room in
    let all : xs ≡ got = so_far ∙ ap (λ l. got ++ l) last ∙ append-nil got in
    sym (take_of_short got (limit + 1) long) ∙ ap (take (limit + 1)) (sym all)
