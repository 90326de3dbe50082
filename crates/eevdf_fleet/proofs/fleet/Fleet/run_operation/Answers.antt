use Rattle.std.proofs.Common.{◌≡◌, ap, sym, subst, ◌∙◌, length}
use Rattle.std.specs.Prelude.{OnOk}
use Rattle.eevdf_ops.specs.declared.deeds.Op.{Op}
use Rattle.eevdf_ops.specs.Setup.{cpus_of, home_of, homes_of}
use Rattle.eevdf_fleet.specs.Fleets.{HasPosted, Seat, setup_of, with_post}
use Rattle.eevdf_fleet.specs.ProgramRuns.{HasOperated}
use Rattle.eevdf_fleet.proofs.ProgramOperations.{post-done, posts-known}
use Rattle.eevdf_fleet.proofs.fleet.Fleet.run_operation.Goals as goal

pub returns-in-Post : goal.returns-in-Post
returns-in-Post g c =
    let s = setup_of g.N.Names.kit in
    let before = c.args.seat.now in
    let after = c.post.new.self in
    let view : c.seat.inside.parts.seat ≡ before = c.seat.view_is in
    let posted : HasPosted c.seat.inside.parts after (home_of (homes_of s) c.in-Post.task) c.in-Post.task =
    subst (λ r. OnOk r (HasPosted c.seat.inside.parts after (home_of (homes_of s) c.in-Post.task) c.in-Post.task)) c.unwrap.ensures c.post.ensures.accepted in
    subst (λ (o : Op). HasOperated s o before after.seat) (sym c.in-Post.is)
    (post-done s before after.seat c.in-Post.task (ap (λ (x : Seat). length x.posted) (sym view) ∙ c.post.ensures.homes) c.post.ensures.home
    (posted.seat ∙ ap (λ (x : Seat). with_post x (home_of (homes_of s) c.in-Post.task) c.in-Post.task) view))

pub post-requires : goal.post-requires
post-requires g c =
    let s = setup_of g.N.Names.kit in
    posts-known (homes_of s) (cpus_of s) c.args.seat.now.cpu c.requires.sound.0 c.in-Post.task c.args.op c.requires.sound.1 c.in-Post.is
