use Rattle.statement_statistics.proofs.SoundStats.{sound_stats}
use Rattle.statement_statistics.proofs.laws.statistics_are_sound.Goals as goal

pub returns : goal.returns
returns c = sound_stats
