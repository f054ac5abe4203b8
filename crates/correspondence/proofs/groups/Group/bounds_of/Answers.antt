use Rattle.correspondence.proofs.groups.Group.bounds_of.Goals as goal

pub returns : goal.returns
returns c contours g to = g.each c.args.place _ c.requires.from to
