use Rattle.skyline.proofs.Skylines.{empty_holds}
use Rattle.skyline.proofs.skyline_packer.new.Goals as goal

pub returns : goal.returns
returns c = empty_holds c.args.w c.args.xs.now c.args.ys.now c.requires.0 c.requires.1 c.requires.2
