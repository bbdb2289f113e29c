use Rattle.statement_statistics.proofs.SoundStats.{sound_vector}
use Rattle.statement_statistics.proofs.laws.vector_is_sound.Goals as goal

pub returns : goal.returns
returns c = sound_vector
