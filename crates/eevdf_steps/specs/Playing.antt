-- What a player keeps, from its parts.
use Rattle.std.specs.Prelude.{◌≡◌, ℕ, ◌+◌, ◌≤◌, List, length, Option}
use Rattle.eevdf_ops.specs.{Places.count, Setup.is_task}
use Rattle.eevdf_steps.specs.{Plan.Plan, Plan.callers, Callers.Callers, Recorded.Recorded, Openings.most_lines, Work.Work}
use Rattle.eevdf_steps.specs.{PostLists.ArePosted, PostLists.PostList, PostLists.progress_in, Room.lines_to_come}
use Rattle.eevdf_steps.specs.{Serial.IsSerial, Places.places_of, Players.Player}

-- the player that parts of it show
abbrev pub player_of : Callers → List PostList → List (Option ℕ) → Recorded → Player
player_of way lists found done = record {
  plan = way.plan;
  state = record { work = done.work; progress = progress_in way.counters lists found; lines = done.journal.lines };
}

-- each caller has a queue, a hand and an answer, and each task stands in one place
pub record IsWork (plan : Plan) (work : Work) : Type 0 where
  pub queues : length work.machine ≡ callers plan
  pub hands : length work.hands ≡ callers plan
  pub answers : length work.answers ≡ callers plan
  pub once : (task : ℕ) → places_of work task ≡ count (is_task plan.homes task)

pub record IsPlaying (way : Callers) (lists : List PostList) (requests : List (Option ℕ)) (done : Recorded) : Type 0 where
  pub posts : ArePosted way.plan way.counters lists
  pub found : length requests ≡ callers way.plan
  pub work : IsWork way.plan done.work
  pub reserved : done.journal.room ≡ most_lines way.plan
  pub room : length done.journal.lines + lines_to_come way.plan way.counters lists requests ≤ done.journal.room
  pub serial : IsSerial way.plan way.plan.start way.counters done.work done.journal.lines
