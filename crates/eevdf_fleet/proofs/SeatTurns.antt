-- The turns on a seat, and those of every CPU in what the seats are closed to.
use Rattle.std.proofs.Common.{◌≡◌, ℕ, suc, ◌+◌, ◌-◌, ◌<◌, Bool, List, length, get_or, sym, ap, subst, ◌∙◌, arith}
use Rattle.std.proofs.lemmas.List.Elements.{All-get_or}
use Rattle.std.proofs.lemmas.Option.{slice_get-get_or}
use Rattle.std.specs.Prelude.{All, MatchBool, Some, slice_get}
use Rattle.eevdf_ops.specs.{Outcome.Outcome, Programs.lines_by, Setup.cpus_of}
use Rattle.eevdf_fleet.specs.Fleets.{AllPostsTold, Kit, Seat, fresh, quota_of, setup_of}
use Rattle.eevdf_fleet.specs.{SeatWorks.AreDone, Turns.HasItsTurns, Turns.HasTurned}

-- a turn, and where it doesn't break those after it
pub turned-on : (Gives : ℕ → Seat → Seat → Bool → Type 0) (n turns : ℕ) (breaks : Bool) (before next after : Seat) → n < turns → Gives n before next breaks
    → MatchBool breaks (after ≡ next) (HasTurned Gives (n + 1) (turns - (n + 1)) next after) → HasTurned Gives n (turns - n) before after
turned-on Gives n turns breaks before next after within gives others =
    let one : suc (turns - (n + 1)) ≡ turns - n = omega (arith, within) in
    subst (λ (k : ℕ). HasTurned Gives n k before after) one (next, breaks, gives, others)

-- where each seat has had its turns, each CPU's are told by what the seats are closed to
pub turns-told : (Gives : ℕ → Seat → Seat → Bool → Type 0) (kit : Kit) (turns : ℕ) (seats : List Seat) (o : Outcome)
    → AreDone (cpus_of (setup_of kit)) (λ cpu seat. (seat.cpu ≡ cpu) × HasTurned Gives 0 turns (fresh (quota_of kit) (cpus_of (setup_of kit)) cpu) seat) seats
    → All (λ (seat : Seat). lines_by seat.cpu o.lines ≡ seat.log) seats → AllPostsTold (cpus_of (setup_of kit)) seats o.lines o.left
    → (cpu : ℕ) → cpu < cpus_of (setup_of kit) → HasItsTurns Gives kit turns cpu o
turns-told Gives kit turns seats o done logs told cpu less =
    let seat : Seat = get_or seats cpu (fresh 0 0 0) in
    let within : cpu < length seats = subst (λ (m : ℕ). cpu < m) (sym done.all) less in
    let at : slice_get seats cpu ≡ Some seat = slice_get-get_or seats cpu (fresh 0 0 0) within in
    let own : seat.cpu ≡ cpu = (done.each cpu seat at).0 in
    record {
      seat = seat;
      turned = (done.each cpu seat at).1;
      log = ap (λ (p : ℕ). lines_by p o.lines) (sym own) ∙ All-get_or (λ (x : Seat). lines_by x.cpu o.lines ≡ x.log) seats cpu (fresh 0 0 0) within logs;
      posts = λ home there. told cpu home seat at there;
    }
