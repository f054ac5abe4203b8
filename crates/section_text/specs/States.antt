-- What states of the reader stand for, and what it returns for a line.
use Rattle.std.specs.Prelude.{ℕ, ◌≡◌, Bool, true, false, nat_lt, ◌+◌, map, length, pos, Result, Ok, Err, ⊤}
use Rattle.fku_types.specs.declared.fault.Fault.{Fault}
use Rattle.fku_types.specs.declared.fault.Fault.TheVariants.{NoMemory}
use Rattle.section_text.specs.declared.states.Body.{Body as HeldBody}
use Rattle.section_text.specs.declared.states.Body.TheVariants as body
use Rattle.section_text.specs.declared.states.State.{State as Held}
use Rattle.section_text.specs.declared.states.State.TheVariants as held
use Rattle.section_core.specs.declared.tally.Tally.{Tally}
use Rattle.section_core.specs.Laws.{Facts, facts}
use Rattle.section_core.specs.Costs.{cost_parts}
use Rattle.section_core.specs.Reading.{Breach, fault_at}
use Rattle.section_core.specs.Machine.{Body, bare, in_section, in_contour, in_links, State, at_version, at_cost, at_rule, no_object, in_object, ended, parts_of}
use Rattle.section_core.specs.Tallies.{Tallies}
use Rattle.section_core.specs.Views.{spot_of, section_parts, contour_parts, link_parts, draft_parts, held_file}
use Rattle.section_core.specs.Flat.{IsAtHeight, IsFlat, AreFlat, AreFlatDrafts}

-- the object that the code holds open
abbrev pub body_of : HeldBody → Body
body_of body.Bare = bare
body_of (body.InSection front s) = in_section (map section_parts front.items) s.z (map contour_parts s.contours.items)
body_of (body.InContour front s c missing) =
    in_contour (map section_parts front.items) s.z (map contour_parts s.contours.items) c.name
    (pos (length c.points.items + missing + 1)) (map spot_of c.points.items) missing
body_of (body.InLinks sections links) = in_links (map section_parts sections.items) (map link_parts links.items)

-- the open contour lacks a point more than its last one
abbrev pub lacks_inner : Body → Bool
lacks_inner (in_contour front z contours name count points missing) = nat_lt 0 missing
lacks_inner b = false

-- the state that the code holds
abbrev pub state_of : Held → State
state_of held.AtVersion = at_version
state_of (held.AtCost v) = at_cost v
state_of (held.AtRule v cost) = at_rule v (cost_parts cost)
state_of (held.NoObject h) = no_object (cost_parts h.cost) h.rule
state_of (held.InObject v h front name b) =
    in_object v (cost_parts h.cost) h.rule (map draft_parts front.items) name (body_of b)
state_of (held.Ended v h objects) = ended (held_file v h objects.items)

-- the code returns what was judged: the next state, with the tally of these facts, or the fault; if there is no fault,
-- memory may run out
abbrev pub TakesItem : {S H : Type 0} → (H → S) → ℕ → Result S Breach → Result H Fault → Tally → Facts → Type 0
TakesItem view line (Ok next) (Ok held) t f = (view held ≡ next) × Tallies t f
TakesItem view line (Err breach) (Err fault) t f = fault ≡ fault_at breach line
TakesItem view line (Ok next) (Err NoMemory) t f = Unit {0}
TakesItem view line (Ok next) (Err fault) t f = ⊥
TakesItem view line (Err breach) (Ok held) t f = ⊥

-- the same for a whole line: the tally is that of the state
abbrev pub TakesLine : ℕ → Result State Breach → Result Held Fault → Tally → Type 0
TakesLine line (Ok next) (Ok state) t = (state_of state ≡ next) × Tallies t (facts (parts_of next))
TakesLine line (Err breach) (Err fault) t = fault ≡ fault_at breach line
TakesLine line (Ok next) (Err NoMemory) t = Unit {0}
TakesLine line (Ok next) (Err fault) t = ⊥
TakesLine line (Err breach) (Ok state) t = ⊥

-- the text has ended
abbrev pub is_ended : Held → Bool
is_ended (held.Ended v h objects) = true
is_ended state = false

-- the result of a reader that changes its state in place
abbrev pub in_place : Result (Unit {0}) Fault → Held → Result Held Fault
in_place (Ok u) state = Ok state
in_place (Err fault) state = Err fault

-- each point of what has been read is at the height of its section
abbrev pub IsFlatBody : HeldBody → Type 0
IsFlatBody body.Bare = ⊤
IsFlatBody (body.InSection front s) = AreFlat front.items × IsFlat s
IsFlatBody (body.InContour front s c missing) = AreFlat front.items × IsFlat s × IsAtHeight s.z c
IsFlatBody (body.InLinks sections links) = AreFlat sections.items

abbrev pub IsFlatState : Held → Type 0
IsFlatState (held.InObject v h front name b) = AreFlatDrafts front.items × IsFlatBody b
IsFlatState (held.Ended v h objects) = AreFlatDrafts objects.items
IsFlatState state = ⊤

-- The three lines of the head are read.
abbrev pub IsBehindHead : State → Type 0
IsBehindHead at_version = ⊥
IsBehindHead (at_cost v) = ⊥
IsBehindHead (at_rule v cost) = ⊥
IsBehindHead state = ⊤

-- Memory is taken only after the head.
abbrev pub IsLineMemory : State → Fault → Type 0
IsLineMemory state NoMemory = IsBehindHead state
IsLineMemory state fault = ⊤
