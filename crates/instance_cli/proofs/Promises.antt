-- What is promised of a verification, from what fetching the texts, the walk and the put told.
use Rattle.std.proofs.Common.{ℕ, ◌≡◌, ◌≤◌, ◌<◌, ◌∙◌, ◌⊎◌, inl, inr, List, Option, Some, None, Result, arith, length}
use Rattle.std.proofs.Common.{subst, sym}
use Rattle.std.specs.Str.{IsUtf8}
use Rattle.outside_model.specs.Causes.{Rose}
use Rattle.outside_model.specs.declared.TheConstants.{SCRIPT_LIMIT}
use Rattle.outside_model.specs.Files.{Files, Told}
use Rattle.outside_model.specs.Outside.{Outside}
use Rattle.report_items.specs.Items.{items_of}
use Rattle.report_items.specs.declared.TheConstants.{REPORT_LIMIT}
use Rattle.report_items.specs.declared.items.ReportItem.{ReportItem}
use Rattle.report_verifier.specs.Soundness.{AreMatched}
use Rattle.report_verifier.specs.Verification.{StepOfLine}
use Rattle.report_verifier.specs.Walk.{Walk}
use Rattle.report_verifier.specs.declared.rejections.Verification.{Verification}
use Rattle.report_verifier.specs.declared.rejections.Verification.TheVariants.{Rejected, Verified}
use Rattle.report_verifier.specs.declared.rejections.Why.{Why}
use Rattle.report_verifier.proofs.Relations.{IsWithin, matched_by, verifies_by}
use Rattle.report_verifier.proofs.SoundWalks.{all_matched, first_sound}
use Rattle.session_model.specs.Run.{Line, spoken_lines}
use Rattle.session_model.specs.Session.{AreSettings}
use Rattle.session_model.specs.declared.settings.Settings.{Settings}
use Rattle.instance_cli.specs.Halts.{Tells}
use Rattle.instance_cli.specs.Texts.{EndsWithoutText, IsText, LacksText, OfText, OfToldFile, unmarked}
use Rattle.instance_cli.specs.Verify.{EndsWalk, IsOfWalk, TakesLine, TakesLines, VerifiesItems, VerifiesReport}
use Rattle.instance_cli.specs.Verify.{VerifyPromise, walk_before}
use Rattle.instance_cli.specs.declared.outcome.Status.{Status}
use Rattle.instance_cli.specs.declared.outcome.Status.TheVariants as status
use Rattle.instance_cli.proofs.Headlines.{Fetched, first_before, nothing_before, took_before}
use Rattle.instance_cli.proofs.Scripts.{same_taken}
use Rattle.instance_cli.proofs.Walked.{takes_longer}

-- Texts.

module _ (limit : ℕ) (name : List ℕ) (files : Option Files) (faults faults' misses misses' : ℕ) where
  pub lacks_missing : Told files (λ told. told name ≡ None) → Rose misses misses'
      → LacksText limit name files faults faults' misses misses' status.Missing
  lacks_missing none rose = record {
    one_of = tt;
    missing = λ e. (none, rose);
    read_fault = λ e. absurd cc;
    too_long = λ e. absurd cc;
    not_text = λ e. absurd cc;
  }

  pub lacks_read : Rose faults faults' → LacksText limit name files faults faults' misses misses' status.ReadFault
  lacks_read rose = record {
    one_of = tt;
    missing = λ e. absurd cc;
    read_fault = λ e. rose;
    too_long = λ e. absurd cc;
    not_text = λ e. absurd cc;
  }

  pub lacks_memory : LacksText limit name files faults faults' misses misses' status.Memory
  lacks_memory = record {
    one_of = tt;
    missing = λ e. absurd cc;
    read_fault = λ e. absurd cc;
    too_long = λ e. absurd cc;
    not_text = λ e. absurd cc;
  }

  pub lacks_long : OfToldFile name files (λ bytes. limit < length bytes)
      → LacksText limit name files faults faults' misses misses' status.TooLong
  lacks_long long = record {
    one_of = tt;
    missing = λ e. absurd cc;
    read_fault = λ e. absurd cc;
    too_long = λ e. long;
    not_text = λ e. absurd cc;
  }

  pub lacks_text : OfToldFile name files (λ bytes. (length bytes ≤ limit) × ¬ IsUtf8 (unmarked bytes))
      → LacksText limit name files faults faults' misses misses' status.NotText
  lacks_text other = record {
    one_of = tt;
    missing = λ e. absurd cc;
    read_fault = λ e. absurd cc;
    too_long = λ e. absurd cc;
    not_text = λ e. other;
  }

-- After something else was fetched.

ends_before : (limit : ℕ) (name : List ℕ) (before middle after : Outside) (result : Status) → Fetched before middle
    → EndsWithoutText limit name middle after result → EndsWithoutText limit name before after result
ends_before limit name before middle after result f (h, same) = (
  record {
    one_of = h.one_of;
    missing = λ e. let m = h.missing e in let n = f.misses in let rose = m.1 in (
      subst (λ (files : Option Files). Told files (λ told. told name ≡ None)) f.files m.0,
      omega arith,
    );
    read_fault = λ e. let r = h.read_fault e in let m = f.faults in omega arith;
    too_long = λ e. subst (λ (files : Option Files). OfToldFile name files (λ bytes. limit < length bytes)) f.files
        (h.too_long e);
    not_text = λ e. subst (λ (files : Option Files). OfToldFile name files
        (λ bytes. (length bytes ≤ limit) × ¬ IsUtf8 (unmarked bytes))) f.files (h.not_text e);
  },
  same ∙ f.taken,
)

lines_before : (before middle after : Outside) → Fetched before middle
    → IsWithin (TakesLines middle after) (TakesLines before after)
lines_before before middle after f = λ old line outcome taken.
    takes_longer before.files middle.misses after.misses before.misses after.misses f.misses (omega arith) old line
    outcome
    (subst (λ (files : Option Files). TakesLine files middle.misses after.misses old line outcome) f.files taken)

walk_ends_before : (settings : Settings) (script : List ℕ) (items : List ReportItem) (before middle after : Outside)
    (v : Verification) → Fetched before middle → EndsWalk settings script items middle after v
    → EndsWalk settings script items before after v
walk_ends_before settings script items before middle after v f h =
    verifies_by (TakesLines middle after) (TakesLines before after) (lines_before before middle after f)
    (walk_before settings items) (spoken_lines script) v h

pub items_before : (settings : Settings) (script : List ℕ) (items : List ReportItem) (before middle after : Outside)
    (result : Status) → Fetched before middle → VerifiesItems settings script items middle after result
    → VerifiesItems settings script items before after result
items_before settings script items before middle after result f h = record {
  one_of = h.one_of;
  done = λ e. let d = h.done e in record {
    executions = d.executions;
    too_large = d.too_large;
    ends = walk_ends_before settings script items before middle after _ f d.ends;
    matched = matched_by (TakesLines middle after) (TakesLines before after) (lines_before before middle after f)
        (walk_before settings items) (spoken_lines script) d.matched;
    took = took_before before middle after _ f d.took;
  };
  rejected = λ e. let d = h.rejected e in record {
    rejection = d.rejection;
    ends = walk_ends_before settings script items before middle after _ f d.ends;
    took = took_before before middle after _ f d.took;
  };
  read_fault = λ e. let r = h.read_fault e in let rose = r.0 in let m = f.faults in
      (omega arith, nothing_before before middle after f r.1);
  write_fault = λ e. let w = h.write_fault e in let rose = w.0 in let m = f.sink_faults in (
    omega arith,
    record {
      verification = w.1.verification;
      ends = walk_ends_before settings script items before middle after _ f w.1.ends;
      took = first_before before middle after _ f w.1.took;
    },
  );
  memory = λ e. nothing_before before middle after f (h.memory e);
}

text_before : (limit : ℕ) (name : List ℕ) (before middle : Outside) (P Q : List ℕ → Type 0) → Fetched before middle
    → ((text : List ℕ) → P text → Q text) → OfText limit name middle.files P → OfText limit name before.files Q
text_before limit name before middle P Q f on (bytes, there, (text, p)) = (
  bytes,
  subst (λ (files : Option Files). Told files (λ told. told name ≡ Some bytes)) f.files there,
  (text, on (unmarked bytes) p),
)

pub report_before : (settings : Settings) (script report : List ℕ) (before middle after : Outside) (result : Status)
    → Fetched before middle → VerifiesReport settings script report middle after result
    → VerifiesReport settings script report before after result
report_before settings script report before middle after result f (inl h) =
    inl (ends_before REPORT_LIMIT report before middle after result f h)
report_before settings script report before middle after result f (inr h) =
    inr (text_before REPORT_LIMIT report before middle
    (λ text. VerifiesItems settings script (items_of text) middle after result)
    (λ text. VerifiesItems settings script (items_of text) before after result) f
    (λ text. items_before settings script (items_of text) before middle after result f) h)

pub verify_before : (settings : Settings) (script report : List ℕ) (before middle after : Outside) (result : Status)
    → Fetched before middle → VerifyPromise settings script report middle after result
    → VerifyPromise settings script report before after result
verify_before settings script report before middle after result f (inl h) =
    inl (ends_before SCRIPT_LIMIT script before middle after result f h)
verify_before settings script report before middle after result f (inr h) =
    inr (text_before SCRIPT_LIMIT script before middle
    (λ text. VerifiesReport settings text report middle after result)
    (λ text. VerifiesReport settings text report before after result) f
    (λ text. report_before settings text report before middle after result f) h)

-- Items.

only : (a b result other : Status) → (result ≡ a) ⊎ (result ≡ b) ⊎ (result ≡ status.Memory) → (a ≡ other → ⊥)
    → (b ≡ other → ⊥) → (status.Memory ≡ other → ⊥) → result ≡ other → ⊥
only a b result other (inl e) p q r k = p (sym e ∙ k)
only a b result other (inr (inl e)) p q r k = q (sym e ∙ k)
only a b result other (inr (inr e)) p q r k = r (sym e ∙ k)

of_walk : (a result : Status) → IsOfWalk a → (result ≡ a) ⊎ (result ≡ status.WriteFault) ⊎ (result ≡ status.Memory)
    → IsOfWalk result
of_walk a result is (inl e) = subst IsOfWalk (sym e) is
of_walk a result is (inr (inl e)) = subst IsOfWalk (sym e) tt
of_walk a result is (inr (inr e)) = subst IsOfWalk (sym e) tt

-- a line that is taken is a step of the walk
is_step : (before after : Outside) (old : Walk) (line : Line) (outcome : Result Walk Why)
    → TakesLines before after old line outcome → StepOfLine old line outcome
is_step before after old line outcome taken = (taken.file, taken.step)

matched : (settings : Settings) → AreSettings settings → (script : List ℕ) (items : List ReportItem)
    (before after : Outside) (executions too_large : ℕ)
    → EndsWalk settings script items before after (Verified executions too_large)
    → AreMatched (TakesLines before after) (walk_before settings items) (spoken_lines script)
matched settings are script items before after executions too_large ends =
    all_matched (TakesLines before after) (is_step before after) (walk_before settings items) (spoken_lines script)
    executions too_large (first_sound settings.lambda settings.weights items are.lambda are.weights) ends

-- the walk ended, and the put told this
pub told_items : (settings : Settings) → AreSettings settings → (script : List ℕ) (items : List ReportItem)
    (before after : Outside) (v : Verification) (result : Status) → EndsWalk settings script items before after v
    → Tells v before.taken after.taken before.sink_faults after.sink_faults result
    → VerifiesItems settings script items before after result
told_items settings are script items before after (Verified executions too_large) result ends tells = record {
  one_of = of_walk status.Done result tt tells.one_of;
  done = λ e. record {
    executions = executions;
    too_large = too_large;
    ends = ends;
    matched = matched settings are script items before after executions too_large ends;
    took = tells.whole e;
  };
  rejected = λ e. absurd (only status.Done status.WriteFault result status.Rejected tells.one_of (λ k. cc) (λ k. cc)
      (λ k. cc) e);
  read_fault = λ e. absurd (only status.Done status.WriteFault result status.ReadFault tells.one_of (λ k. cc) (λ k. cc)
      (λ k. cc) e);
  write_fault = λ e. let w = tells.write_fault e in
      (w.0, record { verification = Verified executions too_large; ends = ends; took = w.1 });
  memory = tells.memory;
}
told_items settings are script items before after (Rejected rejection) result ends tells = record {
  one_of = of_walk status.Rejected result tt tells.one_of;
  done = λ e. absurd (only status.Rejected status.WriteFault result status.Done tells.one_of (λ k. cc) (λ k. cc)
      (λ k. cc) e);
  rejected = λ e. record { rejection = rejection; ends = ends; took = tells.whole e };
  read_fault = λ e. absurd (only status.Rejected status.WriteFault result status.ReadFault tells.one_of (λ k. cc)
      (λ k. cc) (λ k. cc) e);
  write_fault = λ e. let w = tells.write_fault e in
      (w.0, record { verification = Rejected rejection; ends = ends; took = w.1 });
  memory = tells.memory;
}

-- the walk was stopped by the outside or by memory, before anything was taken
pub stopped_items : (settings : Settings) (script : List ℕ) (items : List ReportItem) (before after : Outside)
    (result : Status)
    → ((result ≡ status.ReadFault) × Rose before.faults after.faults) ⊎ (result ≡ status.Memory)
    → after.taken ≡ before.taken → VerifiesItems settings script items before after result
stopped_items settings script items before after result (inl (e, rose)) same = record {
  one_of = subst IsOfWalk (sym e) tt;
  done = λ k. absurd (let f : status.ReadFault ≡ status.Done = sym e ∙ k in cc);
  rejected = λ k. absurd (let f : status.ReadFault ≡ status.Rejected = sym e ∙ k in cc);
  read_fault = λ k. (rose, same_taken before.taken after.taken same);
  write_fault = λ k. absurd (let f : status.ReadFault ≡ status.WriteFault = sym e ∙ k in cc);
  memory = λ k. same_taken before.taken after.taken same;
}
stopped_items settings script items before after result (inr e) same = record {
  one_of = subst IsOfWalk (sym e) tt;
  done = λ k. absurd (let f : status.Memory ≡ status.Done = sym e ∙ k in cc);
  rejected = λ k. absurd (let f : status.Memory ≡ status.Rejected = sym e ∙ k in cc);
  read_fault = λ k. absurd (let f : status.Memory ≡ status.ReadFault = sym e ∙ k in cc);
  write_fault = λ k. absurd (let f : status.Memory ≡ status.WriteFault = sym e ∙ k in cc);
  memory = λ k. same_taken before.taken after.taken same;
}

-- the report's items were read, and the walk over them is told from there on
pub of_items : (settings : Settings) (script report : List ℕ) (items : List ReportItem) (before middle after : Outside)
    (result : Status) → Fetched before middle
    → OfText REPORT_LIMIT report before.files (λ text. items ≡ items_of text)
    → VerifiesItems settings script items middle after result
    → VerifiesReport settings script report before after result
of_items settings script report items before middle after result f (bytes, there, (text, same)) h =
    inr (
      bytes,
      there,
      (
        text,
        subst (λ (i : List ReportItem). VerifiesItems settings script i before after result) same
            (items_before settings script items before middle after result f h),
      ),
    )

-- the script was read, and the report is verified from there on
pub of_script : (settings : Settings) (script report bytes text : List ℕ) (before middle after : Outside)
    (result : Status) → Fetched before middle → Told before.files (λ told. told script ≡ Some bytes)
    → IsText SCRIPT_LIMIT bytes → text ≡ unmarked bytes → VerifiesReport settings text report middle after result
    → VerifyPromise settings script report before after result
of_script settings script report bytes text before middle after result f there is same h =
    inr (
      bytes,
      there,
      (
        is,
        subst (λ (t : List ℕ). VerifiesReport settings t report before after result) same
            (report_before settings text report before middle after result f h),
      ),
    )
