-- A word that is none of the nine begins no command.
use Rattle.std.proofs.Common.{ℕ, ◌≡◌, ◌≢◌, List, false, None, codes, refl}
use Rattle.std.proofs.lemmas.Bool.{false_from_ne_true}
use Rattle.std.specs.Str.{bytes_eq}
use Rattle.std.proofs.lemmas.Slice.Eq.{bytes_eq-Decides}
use Rattle.script_report.specs.Commands.{command_in}

other : (word known : List ℕ) → word ≢ known → bytes_eq word known ≡ false
other word known n = false_from_ne_true (bytes_eq word known) (λ e. n ((bytes_eq-Decides word known).0 e))

pub no_command : (word parts : List ℕ) → word ≢ codes "load" → word ≢ codes "index" → word ≢ codes "prepare"
    → word ≢ codes "run" → word ≢ codes "cursor" → word ≢ codes "fetch"
    → word ≢ codes "close" → word ≢ codes "evict" → word ≢ codes "show" → command_in word parts ≡ None
no_command word parts load index prepare run cursor fetch close evict show =
    rw (
      other word (codes "load") load,
      other word (codes "index") index,
      other word (codes "prepare") prepare,
      other word (codes "run") run,
      other word (codes "cursor") cursor,
      other word (codes "fetch") fetch,
      other word (codes "close") close,
      other word (codes "evict") evict,
      other word (codes "show") show,
    ) refl
