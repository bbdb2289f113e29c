-- Reading a record takes it off the records that are left.
use Rattle.std.proofs.Common.{Bor, ◌≡◌, ◌<◌, ◌≤◌, ◌+◌, ℕ, zero, suc, true, false, List, [], ◌∷◌, Option, None, Some}
use Rattle.std.proofs.Common.{length, refl, ap, sym, subst, add-one, ◌∙◌, arith, inl, inr, rules}
use Rattle.std.proofs.lemmas.Bool.{cases_Bool, true≢false}
use Rattle.csv.proofs.ReadFacts.{rows-end, rows-more}
use Rattle.csv.specs.Machine.{Read, ends_at_end, field_after, fields_after, is_end, next_record, step, in_field}
use Rattle.csv.specs.Machine.{start_field, start_record}
use Rattle.csv.specs.Reading.{Reached, ReadRecord, Ready, default_config, records_from, records_next}
use Rattle.csv.specs.declared.parser.State.{State}
use Rattle.csv.specs.declared.parser.State.TheVariants as st
use Rattle.csv.specs.declared.reader.Reader.{Reader}
use Rattle.csv_tables.specs.Reading.{IsBetween, bytes_left, records_in}

in_field_ends : (c : ℕ) → is_end (in_field default_config c).1 ≡ true
    → ends_at_end (in_field default_config c).0 ≡ false
in_field_ends c h = search rules

start_field_ends : (c : ℕ) → is_end (start_field default_config c).1 ≡ true
    → ends_at_end (start_field default_config c).0 ≡ false
start_field_ends c h = search (rules, in_field_ends)

start_record_ends : (c : ℕ) → is_end (start_record default_config c).1 ≡ true
    → ends_at_end (start_record default_config c).0 ≡ false
start_record_ends c h = search (rules, start_field_ends)

-- a byte that ends a record leaves the machine between two records
step_ends : (s : State) (c : ℕ) → is_end (step default_config s c).1 ≡ true
    → ends_at_end (step default_config s c).0 ≡ false
step_ends st.StartRecord c h = start_record_ends c h
step_ends st.StartField c h = start_field_ends c h
step_ends st.InField c h = in_field_ends c h
step_ends st.InQuoted c h = search rules
step_ends st.InEscape c h = cc
step_ends st.AfterQuote c h = search (rules, in_field_ends)
step_ends st.InComment c h = search rules
step_ends st.AfterCr c h = search (rules, start_record_ends)

-- what a record leaves: fewer bytes, between two records
pub record Shrinks (s : State) (bytes : List ℕ) (read : Read) : Type 0 where
  pub between : ends_at_end read.1 ≡ false
  pub weakly : length read.2 ≤ length bytes
  pub less : ends_at_end s ≡ false → length read.2 < length bytes

same_read : (a b : Read) → Some a ≡ Some b → a ≡ b
same_read a b e = cc

shrinks_at_end : (s : State) → ends_at_end s ≡ true → (fields : List (List ℕ))
    → Shrinks s [] (fields, st.StartRecord, [])
shrinks_at_end s e fields = record { between = refl; weakly = omega arith; less = λ f. absurd (true≢false (sym e ∙ f)) }

shrinks_by_byte : (s after : State) (c : ℕ) (rest : List ℕ) (fields : List (List ℕ)) → ends_at_end after ≡ false
    → Shrinks s (c ∷ rest) (fields, after, rest)
shrinks_by_byte s after c rest fields e = record { between = e; weakly = omega arith; less = λ _. omega arith }

pub shrinks : (s : State) (fields : List (List ℕ)) (field : List ℕ) (bytes : List ℕ) (read : Read)
    → next_record default_config s fields field bytes ≡ Some read → Shrinks s bytes read
unfolding next_record
shrinks s fields field [] read h =
    elim (cases_Bool (ends_at_end s)) [
      | inl e ↦ subst (λ (p : Read). Shrinks s [] p) (same_read _ _ (rw e at h)) (shrinks_at_end s e _)
      | inr e ↦ let now = rw e at h in cc
    ]
shrinks s fields field (c ∷ rest) read h =
    elim (cases_Bool (is_end (step default_config s c).1)) [
      | inl e ↦ subst (λ (p : Read). Shrinks s (c ∷ rest) p) (same_read _ _ (rw e at h))
          (shrinks_by_byte s _ c rest _ (step_ends s c e))
      | inr e ↦
          let more = shrinks (step default_config s c).0 (fields_after (step default_config s c).1 fields field)
          (field_after (step default_config s c).1 c field) rest read (rw e at h) in
          record { between = more.between; weakly = omega arith; less = λ _. omega arith }
    ]

-- the records after a read, as many as `count`
abbrev records_after : Option Read → ℕ → List (List (List ℕ))
records_after read count = records_next (records_from default_config count) read

enough_after : (n m : ℕ) (s : State) (bytes : List ℕ) (read : Option Read)
    → next_record default_config s [] [] bytes ≡ read
    → ends_at_end s ≡ false → length bytes ≤ n → length bytes ≤ m
    → ((t : State) (rest : List ℕ) → ends_at_end t ≡ false → length rest < n → length rest < m
    → records_from default_config n t rest ≡ records_from default_config m t rest)
    → records_after read n ≡ records_after read m
enough_after n m s bytes None r e h k ih = refl
enough_after n m s bytes (Some read) r e h k ih =
    let after = shrinks s [] [] bytes read r in
    let fewer : length read.2 < length bytes = after.less e in
    ap (λ (rest : List (List (List ℕ))). read.0 ∷ rest) (ih read.1 read.2 after.between (omega arith) (omega arith))

-- more turns than there are bytes make no difference
enough : (n m : ℕ) (s : State) (bytes : List ℕ) → ends_at_end s ≡ false → length bytes < n → length bytes < m
    → records_from default_config n s bytes ≡ records_from default_config m s bytes
unfolding records_from
enough zero m s bytes e h k = absurd (omega arith)
enough (suc n) zero s bytes e h k = absurd (omega arith)
enough (suc n) (suc m) s bytes e h k =
    enough_after n m s bytes (next_record default_config s [] [] bytes) refl e (omega arith) (omega arith)
    (λ t rest f i j. enough n m t rest f i j)

-- a record that is read stands first of those that were left
next_left : (s : State) (bytes : List ℕ) (read : Read) → ends_at_end s ≡ false
    → next_record default_config s [] [] bytes ≡ Some read
    → records_in s (Some bytes) ≡ read.0 ∷ records_in read.1 (Some read.2)
unfolding records_from
next_left s bytes read e h =
    let after = shrinks s [] [] bytes read h in
    let fewer : length read.2 < length bytes = after.less e in
    rw (add-one (length bytes), h) (ap (λ (rest : List (List (List ℕ))). read.0 ∷ rest)
    (enough (length bytes) (length read.2 + 1) read.1 read.2 after.between fewer (omega arith)))

-- where none is read none was left
none_left : (s : State) (bytes : List ℕ) → next_record default_config s [] [] bytes ≡ None
    → records_in s (Some bytes) ≡ []
unfolding records_from
none_left s bytes h = rw (add-one (length bytes), h) refl

same_left : (read : Read) (fields : List (List ℕ)) (s : State) (rest : List ℕ) (known : Option (List ℕ))
    → fields ≡ read.0 → read.1 ≡ s → read.2 ≡ rest → known ≡ Some rest
    → read.0 ∷ records_in read.1 (Some read.2) ≡ fields ∷ records_in s known
same_left read fields s rest known f e r k = rw (f, ← e, k, ← r) refl

-- a reader before and after a read that found a record
pub record Took (old new : Reader (Bor (List ℕ))) (fields : List (List ℕ)) : Type 0 where
  pub left : records_in old.state (bytes_left old) ≡ fields ∷ records_in new.state (bytes_left new)
  pub between : IsBetween new

pub took : (old new : Reader (Bor (List ℕ))) (fields : List (List ℕ)) → IsBetween old → Ready new
    → ReadRecord (λ bytes. Some bytes.now) old new true fields → Took old new fields
unfolding Reached
took old new fields b ready r =
    let more = rows-more (λ (bytes : Bor (List ℕ)). Some bytes.now) old new fields default_config old.state b.bytes
    b.bytes [] b.config b.known (refl, refl) r in
    let (rest, known, reached) = more in
    let (read, is, same, state_left) = reached in
    let (state, left) = state_left in
    let after = shrinks old.state [] [] b.bytes read is in
    record {
      left =
          rw b.known
          (next_left old.state b.bytes read b.between is
          ∙ same_left read fields new.state rest (bytes_left new) same state left known);
      between =
          record {
            config = r.2 ∙ b.config;
            trim = r.3 ∙ b.trim;
            ready = ready;
            between = rw (← state) after.between;
            bytes =
                rest;
            known = known;
          };
    }

pub ended : (old new : Reader (Bor (List ℕ))) (fields : List (List ℕ)) → IsBetween old
    → ReadRecord (λ bytes. Some bytes.now) old new false fields → records_in old.state (bytes_left old) ≡ []
ended old new fields b r =
    rw b.known
    (none_left old.state b.bytes (rows-end (λ (bytes : Bor (List ℕ)). Some bytes.now) old new fields default_config
    b.bytes b.config b.known r))
