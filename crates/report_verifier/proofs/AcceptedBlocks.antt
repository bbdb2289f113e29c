-- What an accepted block has.
use Rattle.std.proofs.Common.{ℕ, ◌≡◌, ◌≢◌, ◌∙◌, ◌==◌, ◌&&◌, List, Option, Some, None, Result, Ok, Err, Bool, true}
use Rattle.std.proofs.Common.{false}
use Rattle.std.proofs.Common.{inl, inr, ap, refl, sym, subst, if◌then◌else◌, MatchBool}
use Rattle.std.specs.Str.{bytes_eq}
use Rattle.std.proofs.lemmas.Bool.{and_parts, eqb-true}
use Rattle.std.proofs.lemmas.Slice.Eq.{bytes_eq-Decides}
use Rattle.fraction_math.specs.Fraction.{Fraction}
use Rattle.row_values.specs.Statements.{Statement}
use Rattle.plan_trees.specs.Spelling.{IsPlanText}
use Rattle.plan_trees.specs.Statistics.{IsSoundVector, Statistics}
use Rattle.plan_trees.specs.Trees.{TopTree}
use Rattle.bound_certificate.specs.declared.certificates.Cert.{Cert}
use Rattle.certificate_check.specs.Headline.{entered}
use Rattle.certificate_check.specs.Ledgers.{IsTrueLedger, ledger_after}
use Rattle.certificate_check.specs.Verdicts.{Claim, IsVerdict, claim_of}
use Rattle.certificate_check.specs.declared.entries.Entry.{Entry}
use Rattle.certificate_check.specs.declared.verdicts.Verdict.{Verdict}
use Rattle.certificate_check.specs.declared.verdicts.Verdict.TheVariants as verdict
use Rattle.certificate_check.proofs.Judging.{others_stay, stays_true}
use Rattle.report_items.specs.declared.items.ReportItem.{ReportItem}
use Rattle.report_items.specs.declared.items.ReportItem.TheVariants.{Block, Broken, TooLarge}
use Rattle.report_verifier.specs.Claims.{Follows, IsBlockJudged, IsCertText, IsCostText}
use Rattle.report_verifier.specs.Findings.{Accepts, Finds, FindsBlock, SaidTooLarge, TurnsDown, found, is_for}
use Rattle.report_verifier.specs.declared.rejections.Why.{Why}
use Rattle.report_verifier.specs.declared.rejections.Why.TheVariants as why
use Rattle.report_verifier.proofs.TrueLedgers.{IsTrueAfter}

-- the block is for the line, its texts are read, and the claim that they make is accepted
pub record IsAccepted (old : List Entry) (statement execution : ℕ) (q : Statement)
    (claims : TopTree → ℕ → Cert → Claim) (line : ℕ) (name : List ℕ) (item : Option ReportItem) (new : List Entry)
    : Type 0 where
  pub plan : List ℕ
  pub cost : List ℕ
  pub cert : List ℕ
  pub is_block : item ≡ Some (Block line name execution plan cost cert)
  pub top : TopTree
  pub spelled : IsPlanText q plan top
  pub paid : ℕ
  pub priced : IsCostText cost paid
  pub claimed : Cert
  pub certified : IsCertText cert claimed
  pub accepted : IsVerdict old statement (claims top paid claimed) verdict.Accepted
  pub ledger : new ≡ ledger_after old (entered statement execution (claims top paid claimed))
      (claims top paid claimed).cert verdict.Accepted

follows_ok : (ledger new : List Entry) (v : Verdict) → Follows ledger v (Ok new) → (v ≡ verdict.Accepted) × (new ≡
    ledger)
follows_ok ledger new verdict.Accepted h = (refl, cc)
follows_ok ledger new verdict.BadPlan h = absurd cc
follows_ok ledger new verdict.BadCost h = absurd cc
follows_ok ledger new (verdict.BadTable set) h = absurd cc
follows_ok ledger new verdict.NotLeast h = absurd cc
follows_ok ledger new (verdict.UnknownAnchor execution) h = absurd cc
follows_ok ledger new verdict.OverBound h = absurd cc
follows_ok ledger new verdict.Memory h = absurd h

pub meant : (line : ℕ) (name : List ℕ) (execution told : ℕ) (named : List ℕ) (number : ℕ)
    → is_for line name execution told named number ≡ true → (told ≡ line) × (named ≡ name) × (number ≡ execution)
meant line name execution told named number h =
    let first = and_parts (told == line) (bytes_eq named name && (number == execution)) h in
    let second = and_parts (bytes_eq named name) (number == execution) first.1 in (
      eqb-true told line first.0,
      (bytes_eq-Decides named name).0 second.0,
      eqb-true number execution second.1,
    )

module _ (old : List Entry) (statement execution : ℕ) (q : Statement) (claims : TopTree → ℕ → Cert → Claim) (line : ℕ)
    (name : List ℕ) where
  judged_ok : (plan cost cert : List ℕ) (item : Option ReportItem) (new : List Entry)
      → item ≡ Some (Block line name execution plan cost cert)
      → IsBlockJudged old statement execution q claims plan cost cert (Ok new)
      → IsAccepted old statement execution q claims line name item new
  judged_ok plan cost cert item new is (inl none) = absurd (let e : Ok new ≡ Err why.BadPlan = none.1 in cc)
  judged_ok plan cost cert item new is (inr (top, spelled, inl none)) =
      absurd (let e : Ok new ≡ Err why.BadCost = none.1 in cc)
  judged_ok plan cost cert item new is (inr (top, spelled, inr (paid, priced, inl none))) =
      absurd (let e : Ok new ≡ Err why.Block = none.1 in cc)
  judged_ok plan cost cert item new is (inr (top, spelled, inr (paid, priced, inr (claimed, certified, judged)))) =
      let c : Claim = claims top paid claimed in
      let after = λ (v : Verdict). ledger_after old (entered statement execution c) c.cert v in
      let so = follows_ok (after judged.verdict) new judged.verdict judged.follows in
      record {
        plan = plan;
        cost = cost;
        cert = cert;
        is_block = is;
        top = top;
        spelled = spelled;
        paid = paid;
        priced = priced;
        claimed = claimed;
        certified = certified;
        accepted = subst (λ (v : Verdict). IsVerdict old statement c v) so.0 judged.is_verdict;
        ledger = so.1 ∙ ap after so.0;
      }

  outcome_ok : (plan cost cert : List ℕ) (item : Option ReportItem) (new : List Entry)
      (outcome : Result (List Entry) Why) → item ≡ Some (Block line name execution plan cost cert)
      → Accepts new ≡ found outcome → IsBlockJudged old statement execution q claims plan cost cert outcome
      → IsAccepted old statement execution q claims line name item new
  outcome_ok plan cost cert item new (Ok ledger) is e judged =
      let same : ledger ≡ new = cc in
      judged_ok plan cost cert item new is
      (subst (λ (l : List Entry). IsBlockJudged old statement execution q claims plan cost cert (Ok l)) same judged)
  outcome_ok plan cost cert item new (Err reason) is e judged = absurd cc

  block_ok : (told : ℕ) (named : List ℕ) (number : ℕ) (plan cost cert : List ℕ) (new : List Entry) (test : Bool)
      → is_for line name execution told named number ≡ test
      → MatchBool test (FindsBlock (IsBlockJudged old statement execution q claims) plan cost cert (Accepts new))
      (Accepts new ≡ TurnsDown why.Block)
      → IsAccepted old statement execution q claims line name (Some (Block told named number plan cost cert)) new
  block_ok told named number plan cost cert new true e finds =
      let m = meant line name execution told named number e in
      outcome_ok plan cost cert (Some (Block told named number plan cost cert)) new finds.outcome
      (λ i. Some (Block (m.0 i) (m.1 i) (m.2 i) plan cost cert)) finds.finds finds.judged
  block_ok told named number plan cost cert new false e finds = absurd cc

  large_not_accepted : (test : Bool) (new : List Entry)
      → Accepts new ≢ (if test then SaidTooLarge else TurnsDown why.Block)
  large_not_accepted true new e = cc
  large_not_accepted false new e = cc

  pub accepted_block : (item : Option ReportItem) (new : List Entry)
      → Finds (IsBlockJudged old statement execution q claims) line name execution item (Accepts new)
      → IsAccepted old statement execution q claims line name item new
  accepted_block None new finds = absurd cc
  accepted_block (Some Broken) new finds = absurd cc
  accepted_block (Some (TooLarge told)) new finds = absurd (large_not_accepted (told == line) new finds)
  accepted_block (Some (Block told named number plan cost cert)) new finds =
      block_ok told named number plan cost cert new (is_for line name execution told named number) refl finds

-- Lines that are said to have too many rows.

said_by : (told line : ℕ) (test : Bool) → (told == line) ≡ test
    → SaidTooLarge ≡ (if test then SaidTooLarge else TurnsDown why.Block) → told ≡ line
said_by told line true e h = eqb-true told line e
said_by told line false e h = absurd cc

block_not_large : (Judges : List ℕ → List ℕ → List ℕ → Result (List Entry) Why → Type 0) (plan cost cert : List ℕ)
    (test : Bool) → MatchBool test (FindsBlock Judges plan cost cert SaidTooLarge) (SaidTooLarge ≡ TurnsDown
    why.Block) → ⊥
block_not_large Judges plan cost cert true finds = by_outcome finds.outcome finds.finds
  where
    by_outcome : (outcome : Result (List Entry) Why) → SaidTooLarge ≡ found outcome → ⊥
    by_outcome (Ok ledger) e = cc
    by_outcome (Err reason) e = cc
block_not_large Judges plan cost cert false finds = cc

pub said_too_large : (Judges : List ℕ → List ℕ → List ℕ → Result (List Entry) Why → Type 0) (line : ℕ) (name : List ℕ)
    (execution : ℕ) (item : Option ReportItem) → Finds Judges line name execution item SaidTooLarge
    → item ≡ Some (TooLarge line)
said_too_large Judges line name execution None finds = absurd cc
said_too_large Judges line name execution (Some Broken) finds = absurd cc
said_too_large Judges line name execution (Some (TooLarge told)) finds =
    ap (λ n. Some (TooLarge n)) (said_by told line (told == line) refl finds)
said_too_large Judges line name execution (Some (Block told named number plan cost cert)) finds =
    absurd (block_not_large Judges plan cost cert (is_for line name execution told named number) finds)

-- the ledger after an accepted claim is true of the statement, and as true of others
pub true_after : (old new : List Entry) (statement execution : ℕ) (q : Statement) (s : Statistics) (at : List ℕ)
    (lambda : Fraction) (line : ℕ) (name : List ℕ) (item : Option ReportItem) → IsSoundVector q s at
    → IsTrueLedger q s statement old
    → IsAccepted old statement execution q (claim_of q s at lambda) line name item new
    → IsTrueAfter q s statement old new
true_after old new statement execution q s at lambda line name item sound truth a =
    let c : Claim = claim_of q s at lambda a.top a.paid a.claimed in
    record {
      of_it = subst (IsTrueLedger q s statement) (sym a.ledger)
          (stays_true old statement c verdict.Accepted (entered statement execution c) refl refl sound truth
          a.accepted);
      of_others = λ query numbers other differ h. subst (IsTrueLedger query numbers other) (sym a.ledger)
          (others_stay old statement other query numbers (entered statement execution c) c.cert verdict.Accepted refl
          differ h);
    }
