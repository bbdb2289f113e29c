use Rattle.name_binder.proofs.BoundIsSound.{bound_is_sound}
use Rattle.name_binder.proofs.laws.bound_is_sound.Goals as goal

pub returns : goal.returns
returns c = bound_is_sound
