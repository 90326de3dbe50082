use Rattle.std.proofs.Common.{◌≡◌, ℕ, ◌<◌, List, [], ◌∷◌, ◌++◌, length, sym, ap, subst, ◌∙◌, arith}
use Rattle.std.proofs.Math.ListN.{length-append}
use Rattle.std.specs.Prelude.{slice_index}
use Rattle.eevdf_steps.specs.{Plan.callers, Plan.program, PostLists.PostList, PostLists.list_at, Openings.CountPosts, Openings.empty_at}
use Rattle.eevdf_steps.proofs.Reserving.{empty_next}
use Rattle.eevdf_steps.proofs.openings.empty_posts.Goals as goal

pub loop-room-preserved : goal.loop-room-preserved
loop-room-preserved c =
    let plan = c.args.plan.now in
    let one : List PostList = c.in_ok-open.field-0 ∷ [] in
    let pushed : c.push.new.self.items ≡ c.loop-room.lists.items ++ one = c.in_ok-push.ensures.items in
    let rooms : c.deref-room-items.result.now ≡ c.in_ok-rooms.rooms.items = c.deref-room-items.ensures.value in
    let within : c.loop-room.room-index < callers plan = omega (arith, ap (λ (l : List ℕ). length l) rooms, c.in_ok-rooms.ensures.each) in
    record {
      each = omega (arith, ap (λ (l : List PostList). length l) pushed, length-append c.loop-room.lists.items one, c.loop-room.invariant.each);
      empty = λ k below. subst (λ (ls : List PostList). list_at ls k ≡ empty_at plan k) (sym pushed)
          (empty_next plan c.loop-sender.sender c.loop-room.room-index c.loop-room.lists.items c.in_ok-rooms.rooms.items c.in_ok-open.field-0 within
          (subst (λ (p : ℕ). CountPosts plan (program plan p) c.in_ok-rooms.rooms.items) c.numbered.ensures c.in_ok-rooms.ensures)
          (c.in_ok-open.ensures ∙ ap (λ (rs : List ℕ). record { posted = []; taken = 0; room = slice_index rs c.loop-room.room-index }) rooms)
          c.loop-room.invariant.each c.loop-room.invariant.empty k below);
    }
