use Rattle.std.proofs.Common.{◌<◌, arith, ap, length, length-set, refl, ◌∙◌}
use Rattle.selectivity_counts.proofs.EntryMasks.{few_entries, masks_done, masks_more}
use Rattle.selectivity_counts.proofs.masks.indexed.Goals as goal

pub mask_of-requires : goal.mask_of-requires
mask_of-requires c =
    rw (c.entries_of.ensures, c.places.ensures.value)
    (few_entries c.args.q.now.places c.args.indexes.now c.loop-place.place c.places.ensures.schemas)

pub loop-place-preserved : goal.loop-place-preserved
loop-place-preserved c =
    let inside : c.loop-place.place < length c.args.q.now.places =
    omega (arith, c.loop-place-test.true, ap length c.places-place-end.ensures.value) in
    let few = c.places.ensures.sound.few_places in
    record {
      long = length-set c.loop-place.masks c.loop-place.place c.mask_of.result ∙ c.loop-place.invariant.long;
      value =
          masks_more c.args.q.now.places c.args.indexes.now c.loop-place.masks c.loop-place.place c.mask_of.result
          inside (omega (arith, inside, few, c.loop-place.invariant.long))
          (c.mask_of.ensures ∙ rw (c.entries_of.ensures, c.places.ensures.value) refl) c.loop-place.invariant.value;
    }

pub returns : goal.returns
returns c =
    c.in-Some.ensures.value
    ∙ masks_done c.args.q.now.places c.args.indexes.now c.loop-place.masks c.loop-place.place
    (length c.places-2.result.now)
    (omega (arith, c.loop-place-test.false, ap length c.places-place-end.ensures.value))
    (omega (arith, c.loop-place.auto.place-end, ap length c.places-place-end.ensures.value))
    (ap length c.places-2.ensures.value) c.loop-place.invariant.value
