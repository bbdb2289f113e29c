-- What the program ends with, and what it says on standard error.
use Rattle.std.specs.Prelude.{ℕ, List, codes, Option, Some, None}
use Rattle.instance_cli.specs.declared.outcome.Status.{Status}
use Rattle.instance_cli.specs.declared.outcome.Status.TheVariants.{Done, DoneRefused, Usage, Missing, ReadFault}
use Rattle.instance_cli.specs.declared.outcome.Status.TheVariants.{WriteFault, Memory, TooLong, NotText, Rejected}
use Rattle.instance_cli.specs.declared.outcome.Status.TheVariants.{BadWeights}

-- the number of a status
abbrev pub status_number : Status → ℕ
status_number Done = 0
status_number DoneRefused = 1
status_number Usage = 2
status_number Missing = 3
status_number ReadFault = 4
status_number WriteFault = 5
status_number Memory = 6
status_number TooLong = 7
status_number NotText = 8
status_number Rejected = 9
status_number BadWeights = 10

-- the text of a status; none where the job was done
abbrev pub status_text : Status → Option (List ℕ)
status_text Done = None
status_text DoneRefused = None
status_text Usage = Some (codes "scr: usage")
status_text Missing = Some (codes "scr: missing file")
status_text ReadFault = Some (codes "scr: read fault")
status_text WriteFault = Some (codes "scr: write fault")
status_text Memory = Some (codes "scr: out of memory")
status_text TooLong = Some (codes "scr: too long")
status_text NotText = Some (codes "scr: not text")
status_text Rejected = Some (codes "scr: rejected")
status_text BadWeights = Some (codes "scr: bad weights")
