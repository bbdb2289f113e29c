-- What stands behind words, names and numbers.
use Rattle.std.proofs.Common.{ℕ, zero, suc, ◌≡◌, ◌≤◌, ◌<◌, ◌+◌, ◌-◌, ◌/◌, ◌%◌, ◌||◌, nat_lt, List, [], ◌∷◌, ◌++◌, codes}
use Rattle.std.proofs.Common.{Bool, true, false, Option, Some, None, refl, ap, ◌∙◌, arith, sub-one}
use Rattle.std.specs.Str.{bytes_eq}
use Rattle.std.specs.Fmt.{decimal, digits}
use Rattle.std.specs.List.{flat_map}
use Rattle.std.proofs.lemmas.Fmt.{decimal_digit}
use Rattle.std.proofs.lemmas.Grind.{common_steps}
use Rattle.std.proofs.lemmas.Slice.Eq.{bytes_eq-Decides}
use Rattle.row_values.specs.Names.{doubled, quoted_name}
use Rattle.plan_trees.specs.Reading.{◌>>=◌, chosen, after, after_byte, after_ended, first_at, number_words, plan_at}
use Rattle.plan_trees.specs.Reading.{form_at, closed_at, joined_at, base_at}
use Rattle.row_values.specs.Statements.{Statement}
use Rattle.plan_trees.specs.Spelling.{number_text}
use Rattle.plan_trees.proofs.Bits.{all_pass, at_each, or_right}

-- nothing more is read
read_nothing : {A : Type 0} (o : Option A) → (o >>= (λ x. Some x)) ≡ o
read_nothing None = refl
read_nothing (Some x) = refl

bind_assoc : {A B C : Type 0} (o : Option A) (f : A → Option B) (g : B → Option C) → ((o >>= f) >>= g)
    ≡ (o >>= (λ x. f x >>= g))
bind_assoc None f g = refl
bind_assoc (Some x) f g = refl

bind_word : (o : Option (List ℕ)) (a b : List ℕ) → ((rest : List ℕ) → after (a ++ b) rest ≡ (after a rest >>= after b))
    → (o >>= after (a ++ b)) ≡ ((o >>= after a) >>= after b)
bind_word None a b each = refl
bind_word (Some rest) a b each = each rest

-- a word in two parts
pub after-append : (a b text : List ℕ) → after (a ++ b) text ≡ (after a text >>= after b)
after-append [] b text = refl
after-append (byte ∷ a) b text = bind_word (after_byte byte text) a b (λ rest. after-append a b rest)

last_byte : (byte : ℕ) (text : List ℕ) → after (byte ∷ []) text ≡ after_byte byte text
last_byte byte text = read_nothing (after_byte byte text)

bind_last : (o : Option (List ℕ)) (byte : ℕ) → (o >>= after (byte ∷ [])) ≡ (o >>= after_byte byte)
bind_last None byte = refl
bind_last (Some text) byte = last_byte byte text

bind_quote : (o : Option (List ℕ)) (name : List ℕ) → (o >>= after (flat_map doubled name ++ 34 ∷ []))
    ≡ (o >>= λ rest. after (flat_map doubled name) rest >>= after_byte 34)
bind_quote None name = refl
bind_quote (Some rest) name = after-append (flat_map doubled name) (34 ∷ []) rest
    ∙ bind_last (after (flat_map doubled name) rest) 34

-- a name in quotes
pub after_quotes : (name text : List ℕ) → after (quoted_name name) text
    ≡ (after_byte 34 text >>= λ rest. after (flat_map doubled name) rest >>= after_byte 34)
after_quotes name text = bind_quote (after_byte 34 text) name

two_digits : ℕ → List ℕ
two_digits n = (48 + n / 10) ∷ (48 + n % 10) ∷ []

is_two_digits : ℕ → Bool
is_two_digits n = nat_lt n 10 || bytes_eq (decimal n) (two_digits n)

all_two_digits : all_pass 100 is_two_digits ≡ true
unfolding all_pass is_two_digits two_digits digits
all_two_digits = refl

same_digits : (n : ℕ) → nat_lt n 10 ≡ false → is_two_digits n ≡ true → decimal n ≡ two_digits n
unfolding is_two_digits
same_digits n large tried =
    (bytes_eq-Decides (decimal n) (two_digits n)).0 (or_right (nat_lt n 10) (bytes_eq (decimal n) (two_digits n)) large
    tried)

decimal_two : (n : ℕ) → 10 ≤ n → n < 100 → decimal n ≡ two_digits n
decimal_two n large small =
    same_digits n (grind (arith, common_steps)) (at_each 100 is_two_digits n all_two_digits small)

pub after_one_digit : (n : ℕ) (text : List ℕ) → n < 10 → after (decimal n) text ≡ after_byte (48 + n) text
after_one_digit n text small = ap (λ word. after word text) (decimal_digit n small) ∙ last_byte (48 + n) text

pub after_two_digits : (n : ℕ) (text : List ℕ) → 10 ≤ n → n < 100 → after (decimal n) text
    ≡ (after_byte (48 + n / 10) text >>= after_byte (48 + n % 10))
unfolding two_digits
after_two_digits n text large small =
    ap (λ word. after word text) (decimal_two n large small) ∙ bind_last (after_byte (48 + n / 10) text) (48 + n % 10)

-- the first of the numbers that are left
pub first_number : (end n count : ℕ) (text : List ℕ) → n < count
    → first_at end n (number_words n (count - n)) text
    ≡ chosen (after_ended end (number_text n) text) (λ rest. Some (n, rest))
    (first_at end (n + 1) (number_words (n + 1) (count - (n + 1))) text)
first_number end n count text less =
    let one_less : count - n ≡ suc (count - (n + 1)) = omega arith in
    ap (λ (left : ℕ). first_at end n (number_words n left) text) one_less

-- a plan where some room is left
pub plan_more : (room : ℕ) (q : Statement) (text : List ℕ) → 0 < room
    → plan_at room q text
    ≡ chosen (after (codes "hash(") text)
    (λ rest. plan_at (room - 1) q rest >>= λ outer. after_byte 44 outer.1 >>= λ rest.
    plan_at (room - 1) q rest >>= λ inner. joined_at q outer.0 inner.0 inner.1)
    (chosen (form_at text) (λ f. plan_at (room - 1) q f.1 >>= λ outer. closed_at q f.0 outer.0 outer.1)
    (base_at q text))
unfolding plan_at
plan_more zero q text some = absurd (omega arith)
plan_more (suc room) q text some = rw sub-one refl

pub no_room : (room : ℕ) (q : Statement) (text : List ℕ) → room ≡ 0 → plan_at room q text ≡ None
unfolding plan_at
no_room room q text none = rw none refl
