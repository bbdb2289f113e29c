-- Weights that a file says, and the usual ones, are within their bounds.
use Rattle.std.proofs.Common.{ℕ, ◌≡◌, ◌&&◌, nat_le, List, Bool, true, false, Option, Some, None, arith, refl, subst, sym}
use Rattle.std.proofs.Common.{option_and_then, if◌then◌else◌, codes}
use Rattle.std.proofs.lemmas.Bool.{leb-true}
use Rattle.std.proofs.lemmas.Option.{none-some, same_Some}
use Rattle.outside_model.specs.Files.{Files}
use Rattle.plan_trees.specs.Reading.{◌>>=◌}
use Rattle.plan_trees.specs.Statistics.{AreWeights, IsWithin}
use Rattle.plan_trees.specs.declared.statistics.Weights.{Weights}
use Rattle.serde_json.specs.Data.{Data}
use Rattle.serde_json.specs.Find.{as_number, as_object, as_u64, get}
use Rattle.weights_file.specs.Files.{default_weights, has_six, json_of, weight_from, weight_in, weights_in}
use Rattle.instance_cli.specs.Jobs.{HasWeights}

-- something was read of something
record IsRead {A B : Type 0} (o : Option A) (read : A → Option B) (b : B) : Type 0 where
  first : A
  is : o ≡ Some first
  rest : read first ≡ Some b

is_read : {A B : Type 0} (o : Option A) (read : A → Option B) (b : B) → (o >>= read) ≡ Some b → IsRead o read b
is_read None read b e = absurd (none-some b e)
is_read (Some a) read b e = record { first = a; is = refl; rest = e }

weight_by : (n w : ℕ) (low high : Bool) → nat_le 1 n ≡ low → nat_le n 1000 ≡ high
    → (if low && high then Some n else None) ≡ Some w → IsWithin 1000 w
weight_by n w true true s t e =
    subst (IsWithin 1000) (same_Some n w e) (record { low = leb-true 1 n s; high = leb-true n 1000 t })
weight_by n w true false s t e = absurd (none-some w e)
weight_by n w false high s t e = absurd (none-some w e)

weight_within : (name : List ℕ) (json : Data) (w : ℕ) → weight_in name json ≡ Some w → IsWithin 1000 w
weight_within name json w e =
    let r = is_read (option_and_then as_u64 (option_and_then as_number (get name json))) weight_from w e in
    weight_by r.first w (nat_le 1 r.first) (nat_le r.first 1000) refl refl r.rest

value_within : (json : Data) (w : Weights) → weights_in json ≡ Some w → AreWeights w
value_within json w e = by (has_six (as_object json)) e
  where
    six : List ℕ → Option ℕ
    six name = weight_in name json

    read : Option Weights
    read = do
      row ← six (codes "row")
      fetch ← six (codes "fetch")
      probe ← six (codes "probe")
      hash ← six (codes "hash")
      sort ← six (codes "sort")
      out ← six (codes "out")
      Some (record { row = row; fetch = fetch; probe = probe; hash = hash; sort = sort; out = out })

    by : (test : Bool) → (if test then read else None) ≡ Some w → AreWeights w
    by false e = absurd (none-some w e)
    by true e =
        let a = is_read (six (codes "row")) _ w e in
        let b = is_read (six (codes "fetch")) _ w a.rest in
        let c = is_read (six (codes "probe")) _ w b.rest in
        let d = is_read (six (codes "hash")) _ w c.rest in
        let f = is_read (six (codes "sort")) _ w d.rest in
        let g = is_read (six (codes "out")) _ w f.rest in
        subst AreWeights (same_Some _ w g.rest) (record {
          row = weight_within (codes "row") json a.first a.is;
          fetch = weight_within (codes "fetch") json b.first b.is;
          probe = weight_within (codes "probe") json c.first c.is;
          hash = weight_within (codes "hash") json d.first d.is;
          sort = weight_within (codes "sort") json f.first f.is;
          out = weight_within (codes "out") json g.first g.is;
        })

usual_within : AreWeights default_weights
usual_within = record {
  row = record { low = omega arith; high = omega arith };
  fetch = record { low = omega arith; high = omega arith };
  probe = record { low = omega arith; high = omega arith };
  hash = record { low = omega arith; high = omega arith };
  sort = record { low = omega arith; high = omega arith };
  out = record { low = omega arith; high = omega arith };
}

pub weights_within : (named : Option (List ℕ)) (files : Option Files) (weights : Weights)
    → HasWeights named files weights → AreWeights weights
weights_within None files weights has = subst AreWeights (sym has) usual_within
weights_within (Some name) files weights has =
    let r = is_read (json_of has.0) weights_in weights has.2.1 in
    value_within r.first weights r.rest
