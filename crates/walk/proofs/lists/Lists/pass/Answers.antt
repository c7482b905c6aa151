use Rattle.walk.proofs.Moves.{no_room, no_sound}
use Rattle.walk.proofs.lists.Lists.pass.Goals as goal

pub push_reserved-requires : goal.push_reserved-requires
push_reserved-requires c = no_room c.args.self.now c.args.part c.requires.sorts.sound

pub ask_on-requires : goal.ask_on-requires
ask_on-requires c = record { sound = no_sound c.args.self.now c.args.part c.push_reserved.new.self c.requires.sorts.sound c.requires.within c.push_reserved.ensures.items c.push_reserved.ensures.capacity; at = c.requires.sorts.at }
