use Rattle.script.proofs.telling.say_with.Goals as goal

-- `say_with` says its answer on the new layout. Assumes nothing.
pub returns : goal.returns
returns c = c.say.ensures
