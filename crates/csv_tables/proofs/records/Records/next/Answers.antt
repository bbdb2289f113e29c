use Rattle.std.proofs.Common.{inl, inr}
use Rattle.std.proofs.lemmas.Bool.{cases_Bool, true≢false}
use Rattle.csv.specs.Records.{fields_of}
use Rattle.csv_tables.proofs.RecordsLeft.{took, ended}
use Rattle.csv_tables.proofs.records.Records.next.Goals as goal

pub invariant_of-self-2 : goal.invariant_of-self-2
invariant_of-self-2 c h =
    let was = c.self.invariant c.if-self.false in
    elim (cases_Bool c.in-Ok.found) [
      | inl e ↦ (took c.self.inside.reader c.read_byte_record.new.self (fields_of c.read_byte_record.new.row) was
          (inl (c.in-Ok.ensures.ready was.trim)) (rw e at (c.in-Ok.ensures.reads was.trim was.ready))).between
      | inr e ↦ absurd (true≢false (rw e at h))
    ]

pub returns : goal.returns
returns c =
    let was = c.self.invariant c.if-self.false in
    elim (cases_Bool c.in-Ok.found) [
      | inl e ↦ rw (← c.self.view_is, c.if-self.false, e) (took c.self.inside.reader c.read_byte_record.new.self
          (fields_of c.read_byte_record.new.row) was (inl (c.in-Ok.ensures.ready was.trim))
          (rw e at (c.in-Ok.ensures.reads was.trim was.ready))).left
      | inr e ↦ rw (← c.self.view_is, c.if-self.false, e) (ended c.self.inside.reader c.read_byte_record.new.self
          (fields_of c.read_byte_record.new.row) was (rw e at (c.in-Ok.ensures.reads was.trim was.ready)))
    ]
