-- How the walk over a script's lines stops before its end, and how its end is told.
use Rattle.std.specs.Prelude.{ℕ, ◌≡◌, ◌⊎◌, ◌++◌, List, take, Option, Some, Result, Ok, Err}
use Rattle.outside_model.specs.Causes.{Rose}
use Rattle.outside_model.specs.Files.{Files, Told}
use Rattle.report_verifier.specs.Verification.{Taking, Verifies}
use Rattle.report_verifier.specs.Verifications.{verification_text}
use Rattle.report_verifier.specs.Walk.{Walk}
use Rattle.report_verifier.specs.declared.rejections.Stop.{Stop}
use Rattle.report_verifier.specs.declared.rejections.Stop.TheVariants as stop
use Rattle.report_verifier.specs.declared.rejections.Verification.{Verification}
use Rattle.report_verifier.specs.declared.rejections.Verification.TheVariants.{Rejected, Verified}
use Rattle.script_report.specs.Commands.{Reading}
use Rattle.session_model.specs.Run.{Line}
use Rattle.instance_cli.specs.Verify.{TakesReading}
use Rattle.instance_cli.specs.declared.outcome.Status.{Status}
use Rattle.instance_cli.specs.declared.outcome.Status.TheVariants as status
use Rattle.instance_cli.specs.declared.verify.Halt.{Halt}
use Rattle.instance_cli.specs.declared.verify.Halt.TheVariants as halt

abbrev pub halt_of : Stop → Halt
halt_of (stop.Rejected rejection) = halt.Rejected rejection
halt_of stop.Memory = halt.Memory

-- a line of this number that says this turns the report down, or the shelf failed, or memory was short
abbrev pub HaltedAt : Option Files → ℕ → ℕ → ℕ → ℕ → Walk → ℕ → Reading → Halt → Type 0
HaltedAt files misses misses' faults faults' old number reading (halt.Rejected rejection) =
    (rejection.line ≡ number) × TakesReading files misses misses' old number reading (Err rejection.why)
HaltedAt files misses misses' faults faults' old number reading halt.ReadFault = Rose faults faults'
HaltedAt files misses misses' faults faults' old number reading halt.Memory = Unit {0}

-- the same of some lines: they turn the report down whatever lines come behind them
abbrev pub Halted : Taking → ℕ → ℕ → Walk → List Line → Halt → Type 0
Halted Takes faults faults' old lines (halt.Rejected rejection) =
    (others : List Line) → Verifies Takes old (lines ++ others) (Rejected rejection)
Halted Takes faults faults' old lines halt.ReadFault = Rose faults faults'
Halted Takes faults faults' old lines halt.Memory = Unit {0}

-- what a walk ends with that was stopped
abbrev pub verification_by : Halt → Result Verification Status
verification_by (halt.Rejected rejection) = Ok (Rejected rejection)
verification_by halt.ReadFault = Err status.ReadFault
verification_by halt.Memory = Err status.Memory

-- the status once the line of a verification was written
abbrev pub status_by : Verification → Status
status_by (Verified executions too_large) = status.Done
status_by (Rejected rejection) = status.Rejected

-- the line of a verification was taken; or its first bytes, and the sink failed; or nothing, and memory was short
pub record Tells (verification : Verification) (old new : Option (List ℕ)) (faults faults' : ℕ) (result : Status)
    : Type 0 where
  pub one_of : (result ≡ status_by verification) ⊎ (result ≡ status.WriteFault) ⊎ (result ≡ status.Memory)
  pub whole : result ≡ status_by verification → Told old (λ taken. new ≡ Some (taken ++ verification_text verification))
  pub write_fault : result ≡ status.WriteFault → Rose faults faults'
      × Told old (λ taken. (count : ℕ) × (new ≡ Some (taken ++ take count (verification_text verification))))
  pub memory : result ≡ status.Memory → Told old (λ taken. new ≡ Some taken)
