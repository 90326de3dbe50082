-- How the lines of a history follow the programs of the CPUs.
use Rattle.std.specs.Prelude.{◌≡◌, ℕ, ◌+◌, ◌≤◌, ◌==◌, List, [], ◌∷◌, ◌++◌, map, if◌then◌else◌, Option, Some, None}
use Rattle.std.specs.{List.filter, List.flat_map, Option.option_to_list}
use Rattle.eevdf_ops.specs.{declared.deeds.Op.Op, declared.deeds.Deed.Deed, declared.deeds.Line.Line, Setup.home_of, Parts.decider}
use Rattle.eevdf_ops.specs.declared.deeds.Op.TheVariants as op
use Rattle.eevdf_ops.specs.declared.deeds.Deed.TheVariants as deed

-- the deed of an operation on a CPU; a post and a drain have none of their own
abbrev pub deed_of : ℕ → Op → Option Deed
deed_of cpu (op.Tick ns) = Some (deed.Tick cpu ns)
deed_of cpu op.Pick = Some (deed.Pick cpu)
deed_of cpu op.Yield = Some (deed.Yield cpu)
deed_of cpu (op.Sleep task) = Some (deed.Sleep cpu task)
deed_of cpu (op.Doze task) = Some (deed.Doze cpu task)
deed_of cpu (op.Pull source) = Some (deed.Pull cpu source)
deed_of cpu (op.Renice task nice) = Some (deed.Renice cpu task nice)
deed_of cpu (op.Begin task nice slice) = Some (deed.Begin cpu task nice slice)
deed_of cpu (op.End task) = Some (deed.End cpu task)
deed_of cpu (op.Set task nice slice) = Some (deed.Set cpu task nice slice)
deed_of cpu op.Rebase = Some (deed.Rebase cpu)
deed_of cpu (op.Post task) = None
deed_of cpu op.Drain = None

abbrev pub deeds_of : List Line → List Deed
deeds_of lines = map (λ (l : Line). l.deed) lines

-- the deeds of a CPU, and its lines, in order
abbrev pub deeds_by : ℕ → List Deed → List Deed
deeds_by cpu deeds = filter (λ (d : Deed). decider d == cpu) deeds

abbrev pub lines_by : ℕ → List Line → List Line
lines_by cpu lines = filter (λ (l : Line). decider l.deed == cpu) lines

-- the task of a wake that this CPU asked for
abbrev pub wake_from : ℕ → Deed → List ℕ
wake_from sender (deed.Wake cpu task by) = if by == sender then task ∷ [] else []
wake_from sender other = []

-- the tasks of the wakes that a CPU asked for, in order
abbrev pub wakes_in : ℕ → List Deed → List ℕ
wakes_in sender deeds = flat_map (wake_from sender) deeds

abbrev pub wakes_from : ℕ → List Line → List ℕ
wakes_from sender lines = wakes_in sender (deeds_of lines)

-- the tasks of a home that operations post, in order
abbrev pub post_of : List ℕ → ℕ → Op → List ℕ
post_of homes home (op.Post task) = if home_of homes task == home then task ∷ [] else []
post_of homes home other = []

abbrev pub posts_in : List ℕ → ℕ → List Op → List ℕ
posts_in homes home ops = flat_map (post_of homes home) ops

-- wakes on a CPU, asked for by CPUs that strictly ascend from one on
abbrev pub AreWakes : ℕ → ℕ → List Deed → Type 0
AreWakes cpu from [] = Unit {0}
AreWakes cpu from (deed.Wake on task sender ∷ deeds) = (on ≡ cpu) × (from ≤ sender) × AreWakes cpu (sender + 1) deeds
AreWakes cpu from (other ∷ deeds) = ⊥

-- the deeds of one operation: those of a drain are wakes, at most one of each sender
abbrev pub FitsOperation : ℕ → List Deed → Op → Type 0
FitsOperation cpu deeds op.Drain = AreWakes cpu 0 deeds
FitsOperation cpu deeds other = deeds ≡ option_to_list (deed_of cpu other)

-- a list of two parts, each of its own kind
pub record InTwo (deeds : List Deed) (First : List Deed → Type 0) (Then : List Deed → Type 0) : Type 0 where
  pub front : List Deed
  pub back : List Deed
  pub joined : deeds ≡ front ++ back
  pub fits_front : First front
  pub fits_back : Then back

-- the deeds of operations, one operation after the other
abbrev pub FitsOperations : ℕ → List Deed → List Op → Type 0
FitsOperations cpu deeds [] = deeds ≡ []
FitsOperations cpu deeds (o ∷ ops) = InTwo deeds (λ front. FitsOperation cpu front o) (λ back. FitsOperations cpu back ops)

-- the lines are the operations of a CPU's program, in order and each once
abbrev pub FitsProgram : ℕ → List Line → List Op → Type 0
FitsProgram cpu lines ops = FitsOperations cpu (deeds_of lines) ops
