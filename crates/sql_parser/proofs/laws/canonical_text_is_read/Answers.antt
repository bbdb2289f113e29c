use Rattle.sql_parser.proofs.CanonicalIsRead.{canonical_read}
use Rattle.sql_parser.proofs.laws.canonical_text_is_read.Goals as goal

pub returns : goal.returns
returns c = canonical_read
