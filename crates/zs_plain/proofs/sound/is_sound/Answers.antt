use Rattle.zs_plain.proofs.SoundDecides.{sound_from}
use Rattle.zs_plain.proofs.sound.is_sound.Goals as goal

pub returns : goal.returns
returns c =
    sound_from c.args.g.now c.args.h c.args.scope.now c.args.s.now c.in_ok-ids.ids.items c.deref.result.now c.deref-2.result.now c.in_ok-below.below.items c.deref-3.result.now c.belongs-sound.result c.in_ok-ids.ensures c.deref.ensures.value c.deref-2.ensures.value c.in_ok-below.ensures c.deref-3.ensures.value c.belongs-sound.ensures
