use Rattle.std.proofs.Common.{◌≡◌, ◌++◌, take, drop, map}
use Rattle.ring_polygons.specs.States.{moved_state}
use Rattle.ring_polygons.proofs.states.move_each.Given as goal

abbrev pub invariant-loop-state : goal.invariant-loop-state
invariant-loop-state l = l.states ≡ map (moved_state l.place) (take l.state-index l.fn.states)
    ++ drop l.state-index l.fn.states
