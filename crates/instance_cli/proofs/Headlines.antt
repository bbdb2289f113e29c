-- The headline, from what the fetch of the script told and what running its bytes left.
use Rattle.std.proofs.Common.{ℕ, ◌≡◌, ◌≢◌, ◌≤◌, ◌<◌, ◌+◌, ◌∙◌, List, ◌++◌, length, Option, Some, None, sym, ap, subst}
use Rattle.std.proofs.Common.{arith, ◌⊎◌, inl, inr, Bool, true, false, take}
use Rattle.std.specs.Str.{IsUtf8}
use Rattle.std.proofs.lemmas.List.{take_all, length-take}
use Rattle.outside_io.specs.Calls.{Gives}
use Rattle.outside_io.specs.declared.Fetched.TheVariants.{Got}
use Rattle.outside_model.specs.Causes.{Rose}
use Rattle.outside_model.specs.declared.TheConstants.{SCRIPT_LIMIT}
use Rattle.outside_model.specs.Files.{Files, Told, up_to}
use Rattle.outside_model.specs.Outside.{Outside}
use Rattle.session_model.specs.Run.{IsChain, spoken_lines, report_text}
use Rattle.session_model.specs.Session.{AreSettings}
use Rattle.session_model.specs.declared.settings.Settings.{Settings}
use Rattle.instance_cli.proofs.Bounded.{bounded}
use Rattle.instance_cli.specs.Bytes.{RunsBytes}
use Rattle.instance_cli.specs.Headline.{Headline}
use Rattle.instance_cli.specs.Outsides.{Took, TookFirst, TookNothing}
use Rattle.instance_cli.specs.Report.{ServesLine, Starts, ReportsRun, ReportsPrefix}
use Rattle.instance_cli.specs.Texts.{OfToldFile, unmarked}
use Rattle.instance_cli.specs.declared.outcome.Status.{Status}
use Rattle.instance_cli.specs.declared.outcome.Status.TheVariants as status
use Rattle.instance_cli.proofs.Scripts.{same_taken}

pub told_map : {A : Type 0} {P Q : A → Type 0} (o : Option A) → ((a : A) → P a → Q a) → Told o P → Told o Q
told_map None f h = tt
told_map (Some a) f h = f a h

pub whole : (limit : ℕ) (bytes : List ℕ) → length (up_to limit bytes) ≤ limit → up_to limit bytes ≡ bytes
unfolding up_to
whole limit bytes h = take_all (limit + 1) bytes (omega (arith, length-take (limit + 1) bytes))

pub longer : (limit : ℕ) (bytes : List ℕ) → limit < length (up_to limit bytes) → limit < length bytes
unfolding up_to
longer limit bytes h = omega (arith, length-take (limit + 1) bytes)

-- a file that was fetched whole is there with just these bytes
pub fetched : (files : Option Files) (name into : List ℕ) (limit : ℕ) → Told files (λ fs. Gives fs name limit Got into)
    → length into ≤ limit → Told files (λ fs. fs name ≡ Some into)
fetched files name into limit h small =
    told_map files (λ fs g. g.1 ∙ ap Some (sym (g.2 ∙ whole limit g.0 (rw g.2 at small)))) h

-- a file that wasn't is longer than the limit
pub fetched_long : (files : Option Files) (name into : List ℕ) (limit : ℕ) → Told files
    (λ fs. Gives fs name limit Got into)
    → limit < length into → Told files (λ fs. (bytes : List ℕ) × (fs name ≡ Some bytes) × (limit < length bytes))
fetched_long files name into limit h long = told_map files (λ fs g. (g.0, g.1, longer limit g.0 (rw g.2 at long))) h

pub fetched_bytes : (files : Option Files) (name into : List ℕ) (P : List ℕ → Type 0)
    → Told files (λ fs. fs name ≡ Some into) → P into
    → Told files (λ fs. (bytes : List ℕ) × (fs name ≡ Some bytes) × P bytes)
fetched_bytes files name into P h p = told_map files (λ fs e. (into, e, p)) h

-- the outside before the script was fetched, and after it
pub record Fetched (before middle : Outside) : Type 0 where
  pub files : middle.files ≡ before.files
  pub taken : middle.taken ≡ before.taken
  pub misses : before.misses ≤ middle.misses
  pub faults : before.faults ≤ middle.faults
  pub sink_faults : before.sink_faults ≤ middle.sink_faults

starts_before : (settings : Settings) (before middle : Outside) → Fetched before middle → (first : _) → Starts settings
    middle first
    → Starts settings before first
starts_before settings before middle f first s = let m = f.misses in let n = s.misses in
    record { state = s.state; misses = omega arith }

run_before : (settings : Settings) → AreSettings settings → (bytes : List ℕ) (before middle after : Outside)
    (refused : Bool) → Fetched before middle → ReportsRun settings bytes middle after refused
    → ReportsRun settings bytes before after refused
run_before settings are bytes before middle after refused f h =
    let run : IsChain (ServesLine before.files) h.first (spoken_lines (unmarked bytes)) h.replies h.last =
    subst (λ (files : Option Files). IsChain (ServesLine files) h.first
    (spoken_lines (unmarked bytes)) h.replies h.last) f.files h.run in
    record {
      script = h.script;
      replies = h.replies;
      first = h.first;
      last = h.last;
      starts = starts_before settings before middle f h.first h.starts;
      run = run;
      bound = bounded settings are before.files h.first (spoken_lines (unmarked bytes)) h.replies h.last run
          h.starts.state;
      ends = h.ends;
      took = subst (λ (old : Option (List ℕ)). Told old
          (λ taken. after.taken ≡ Some (taken ++ report_text (spoken_lines (unmarked bytes)) h.replies))) f.taken
          h.took;
      status = h.status;
      text = h.text;
    }

prefix_before : (settings : Settings) → AreSettings settings → (bytes : List ℕ) (before middle after : Outside)
    (result : Status) → Fetched before middle → ReportsPrefix settings bytes middle after result
    → ReportsPrefix settings bytes before after result
prefix_before settings are bytes before middle after result f h =
    let run : IsChain (ServesLine before.files) h.first h.done h.replies h.middle =
    subst (λ (files : Option Files). IsChain (ServesLine files) h.first h.done h.replies h.middle) f.files h.run in
    record {
      script = h.script;
      done = h.done;
      rest = h.rest;
      parts = h.parts;
      first = h.first;
      middle = h.middle;
      last = h.last;
      replies = h.replies;
      others = h.others;
      starts = starts_before settings before middle f h.first h.starts;
      run = run;
      bound = bounded settings are before.files h.first h.done h.replies h.middle run h.starts.state;
      ends = h.ends;
      goes_on = subst (λ (files : Option Files). IsChain (ServesLine files) h.middle h.rest h.others h.last) f.files
          h.goes_on;
      cut = h.cut;
      took = subst (λ (old : Option (List ℕ)). Told old
          (λ taken. after.taken ≡ Some (taken ++ (report_text h.done h.replies ++ h.cut)))) f.taken h.took;
      next = h.next;
    }

pub nothing_before : (before middle after : Outside) → Fetched before middle → TookNothing middle after
    → TookNothing before after
nothing_before before middle after f h =
    subst (λ (old : Option (List ℕ)). Told old (λ taken. after.taken ≡ Some taken)) f.taken h

pub took_before : (before middle after : Outside) (bytes : List ℕ) → Fetched before middle → Took middle after bytes
    → Took before after bytes
took_before before middle after bytes f h =
    subst (λ (old : Option (List ℕ)). Told old (λ taken. after.taken ≡ Some (taken ++ bytes))) f.taken h

pub first_before : (before middle after : Outside) (bytes : List ℕ) → Fetched before middle → TookFirst middle after bytes
    → TookFirst before after bytes
first_before before middle after bytes f h =
    subst (λ (old : Option (List ℕ)). Told old (λ taken. (count : ℕ) ×
    (after.taken ≡ Some (taken ++ take count bytes))))
    f.taken h

either : {P Q R S : Type 0} → (P → R) → (Q → S) → P ⊎ Q → R ⊎ S
either f g (inl p) = inl (f p)
either f g (inr q) = inr (g q)

one_of_three : {P : Type 0} (r a b c : Status) → (r ≡ a) ⊎ (r ≡ b) ⊎ (r ≡ c) → (r ≡ a → P) → (r ≡ b → P) → (r ≡ c → P)
    → P
one_of_three r a b c (inl e) f g h = f e
one_of_three r a b c (inr (inl e)) f g h = g e
one_of_three r a b c (inr (inr e)) f g h = h e

-- one status is no other
other : (r s t : Status) → r ≡ s → (s ≡ t → ⊥) → r ≢ t
other r s t e differ k = differ (sym e ∙ k)

cut_is_short : (r : Status) → (r ≡ status.ReadFault) ⊎ (r ≡ status.WriteFault) ⊎ (r ≡ status.Memory)
    → r ≢ status.TooLong
cut_is_short r s = one_of_three r status.ReadFault status.WriteFault status.Memory s (λ e. other r _ _ e (λ k. cc))
    (λ e. other r _ _ e (λ k. cc)) (λ e. other r _ _ e (λ k. cc))

-- The script was got.
pub got : (settings : Settings) → AreSettings settings → (name bytes : List ℕ) (before middle after : Outside)
    (result : Status)
    → Told before.files (λ fs. Gives fs name SCRIPT_LIMIT Got bytes) → Fetched before middle
    → RunsBytes settings bytes middle after result → Headline settings name before after result
got settings are name bytes before middle after result gives f run =
    let there : result ≢ status.TooLong → Told before.files (λ fs. fs name ≡ Some bytes) =
    λ h. fetched before.files name bytes SCRIPT_LIMIT gives (run.short h) in
    record {
      done = λ e. (
        bytes,
        there (other result _ _ e (λ k. cc)),
        run_before settings are bytes before middle after _ f
            (run.done e),
      );
      refused = λ e. (
        bytes,
        there (other result _ _ e (λ k. cc)),
        run_before settings are bytes before middle after _ f
            (run.refused e),
      );
      missing = λ e. absurd (run.missing e);
      read_fault = λ e. let r = run.read_fault e in let m = f.faults in omega arith;
      write_fault = λ e. let r = run.write_fault e in let m = f.sink_faults in omega arith;
      too_long = λ e. fetched_long before.files name bytes SCRIPT_LIMIT gives (run.too_long e);
      not_text = λ e. fetched_bytes before.files name bytes (λ b. (length b ≤ SCRIPT_LIMIT) × ¬ IsUtf8 (unmarked b))
          (there (other result _ _ e (λ k. cc))) (run.not_text e);
      usage = run.usage;
      rejected = run.rejected;
      bad_weights = run.bad_weights;
      nothing = λ s. one_of_three result status.Missing status.TooLong status.NotText s (λ e. absurd (run.missing e))
          (λ e. run.nothing (inl e) ∙ f.taken) (λ e. run.nothing (inr e) ∙ f.taken);
      prefix = λ s. either (nothing_before before middle after f)
          (λ h. (bytes, there (cut_is_short result s), prefix_before settings are bytes before middle after result f h))
          (run.prefix s);
    }

-- It wasn't there.
pub missing : (settings : Settings) (name : List ℕ) (before after : Outside) → Told before.files (λ fs. fs name ≡ None)
    → Rose before.misses after.misses → after.taken ≡ before.taken → Headline settings name before after status.Missing
missing settings name before after none rose same = record {
  done = λ e. absurd cc;
  refused = λ e. absurd cc;
  missing = λ e. (none, rose);
  read_fault = λ e. absurd cc;
  write_fault = λ e. absurd cc;
  too_long = λ e. absurd cc;
  not_text = λ e. absurd cc;
  usage = λ e. cc;
  rejected = λ e. cc;
  bad_weights = λ e. cc;
  nothing = λ s. same;
  prefix = λ s. one_of_three status.Missing status.ReadFault status.WriteFault status.Memory s (λ e. absurd cc)
      (λ e. absurd cc) (λ e. absurd cc);
}

-- The shelf failed.
pub failed : (settings : Settings) (name : List ℕ) (before after : Outside) → Rose before.faults after.faults →
    after.taken ≡ before.taken
    → Headline settings name before after status.ReadFault
failed settings name before after rose same = record {
  done = λ e. absurd cc;
  refused = λ e. absurd cc;
  missing = λ e. absurd cc;
  read_fault = λ e. rose;
  write_fault = λ e. absurd cc;
  too_long = λ e. absurd cc;
  not_text = λ e. absurd cc;
  usage = λ e. cc;
  rejected = λ e. cc;
  bad_weights = λ e. cc;
  nothing = λ s. same;
  prefix = λ s. inl (same_taken before.taken after.taken same);
}

-- Memory was short.
pub short : (settings : Settings) (name : List ℕ) (before after : Outside) → after.taken ≡ before.taken
    → Headline settings name before after status.Memory
short settings name before after same = record {
  done = λ e. absurd cc;
  refused = λ e. absurd cc;
  missing = λ e. absurd cc;
  read_fault = λ e. absurd cc;
  write_fault = λ e. absurd cc;
  too_long = λ e. absurd cc;
  not_text = λ e. absurd cc;
  usage = λ e. cc;
  rejected = λ e. cc;
  bad_weights = λ e. cc;
  nothing = λ s. same;
  prefix = λ s. inl (same_taken before.taken after.taken same);
}

-- A script that was run after something else was fetched.

pub headline_before : (settings : Settings) → AreSettings settings → (name : List ℕ) (before middle after : Outside)
    (result : Status) → Fetched before middle → Headline settings name middle after result
    → Headline settings name before after result
headline_before settings are name before middle after result f h = record {
  done = λ e. let d = h.done e in (
    d.0,
    subst (λ (files : Option Files). Told files (λ told. told name ≡ Some d.0)) f.files d.1,
    run_before settings are d.0 before middle after false f d.2,
  );
  refused = λ e. let d = h.refused e in (
    d.0,
    subst (λ (files : Option Files). Told files (λ told. told name ≡ Some d.0)) f.files d.1,
    run_before settings are d.0 before middle after true f d.2,
  );
  missing = λ e. let m = h.missing e in let n = f.misses in let rose = m.1 in (
    subst (λ (files : Option Files). Told files (λ told. told name ≡ None)) f.files m.0,
    omega arith,
  );
  read_fault = λ e. let r = h.read_fault e in let m = f.faults in omega arith;
  write_fault = λ e. let r = h.write_fault e in let m = f.sink_faults in omega arith;
  too_long = λ e. subst (λ (files : Option Files). OfToldFile name files (λ bytes. SCRIPT_LIMIT < length bytes)) f.files
      (h.too_long e);
  not_text = λ e. subst (λ (files : Option Files). OfToldFile name files
      (λ bytes. (length bytes ≤ SCRIPT_LIMIT) × ¬ IsUtf8 (unmarked bytes))) f.files (h.not_text e);
  usage = h.usage;
  rejected = h.rejected;
  bad_weights = h.bad_weights;
  nothing = λ s. h.nothing s ∙ f.taken;
  prefix = λ s. either (nothing_before before middle after f)
      (λ p. (
        p.0,
        subst (λ (files : Option Files). Told files (λ told. told name ≡ Some p.0)) f.files p.1,
        prefix_before settings are p.0 before middle after result f p.2,
      )) (h.prefix s);
}
