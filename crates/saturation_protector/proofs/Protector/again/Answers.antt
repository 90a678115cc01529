-- `saturation_protector::Protector::again` meets its contract: the rings of a state that passes do not refuse. Assumes nothing.
use Rattle.saturation_protector.specs.Laws.Tests.{passed, passed_whole}
use Rattle.saturation_protector.proofs.Protector.again.Goals as goal

pub restarted-requires : goal.restarted-requires
restarted-requires c = let s = c.args.self in (passed s.preliminary (passed_whole s c.requires).preliminary).ring

pub restarted-requires-2 : goal.restarted-requires-2
restarted-requires-2 c = let s = c.args.self in (passed s.reliable (passed_whole s c.requires).reliable).ring
