use Rattle.vale_player.proofs.lines.sound_scripts_are_doable.Goals as goal
use Rattle.vale_player.proofs.SoundScripts.{sound-doable}

pub returns : goal.returns
returns c = sound-doable
