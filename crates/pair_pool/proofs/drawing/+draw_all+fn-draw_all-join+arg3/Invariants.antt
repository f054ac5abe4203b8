use Rattle.pair_pool.proofs.drawing.+draw_all+fn-draw_all-join+arg3.Given as goal

abbrev pub decreases-join+arg3 : goal.decreases-join+arg3
decreases-join+arg3 g l = l.others

abbrev pub decreases-draw_all : goal.decreases-draw_all
decreases-draw_all g l = l.workers
