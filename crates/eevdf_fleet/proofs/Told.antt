-- A history with one line more.
use Rattle.std.proofs.Common.{◌≡◌, ℕ, Bool, true, ◌&&◌, List, [], ◌∷◌, ◌++◌, length, refl, sym, ap, ◌∙◌}
use Rattle.std.specs.{Prelude.◌==◌, List.list_all}
use Rattle.std.proofs.{Math.ListN.length-replicate, lemmas.List.map-append, lemmas.List.Elements.filter-append}
use Rattle.std.proofs.lemmas.List.Folds.{list_all-append}
use Rattle.eevdf_queue.specs.State.{empty_state}
use Rattle.eevdf_ops.specs.{declared.deeds.Deed.Deed, declared.deeds.Answer.Answer, declared.deeds.Line.Line, Setup.Setup}
use Rattle.eevdf_ops.specs.{Setup.cpus_of, Machine.Machine, Histories.AreHistory, Parts.decider}
use Rattle.eevdf_ops.specs.{Programs.deeds_of, Programs.lines_by}
use Rattle.eevdf_ops.specs.Machine as machine
use Rattle.eevdf_ops.specs.Whole.{whole, lines_of, machine_after}
use Rattle.eevdf_ops.proofs.{Machines.length-begin_at_homes, WholePlaces.length-whole}
use Rattle.eevdf_fleet.specs.declared.board.claims.Terms.{Terms}
use Rattle.eevdf_fleet.specs.Claims.{homes, start, told}

machine_after-more : (hs : List ℕ) (m : Machine) (ds : List Deed) (d : Deed) → machine_after hs m (ds ++ d ∷ []) ≡ (whole hs d (machine_after hs m ds)).1
machine_after-more hs m [] d = refl
machine_after-more hs m (x ∷ ds) d = machine_after-more hs (whole hs x m).1 ds d

lines_of-more : (hs : List ℕ) (m : Machine) (ds : List Deed) (d : Deed)
    → lines_of hs m (ds ++ d ∷ []) ≡ lines_of hs m ds ++ record { deed = d; answer = (whole hs d (machine_after hs m ds)).0 } ∷ []
lines_of-more hs m [] d = refl
lines_of-more hs m (x ∷ ds) d =
    ap (λ (l : List Line). record { deed = x; answer = (whole hs x m).0 } ∷ l) (lines_of-more hs (whole hs x m).1 ds d)

length-after : (hs : List ℕ) (m : Machine) (ds : List Deed) → length (machine_after hs m ds) ≡ length m
length-after hs m [] = refl
length-after hs m (x ∷ ds) = length-after hs (whole hs x m).1 ds ∙ length-whole hs x m

pub length-start : (s : Setup) → length (machine.start s) ≡ cpus_of s
length-start s = length-begin_at_homes 0 s.tasks _ ∙ length-replicate (cpus_of s) empty_state

pub length-told : (t : Terms) (lines : List Line) → length (told t lines) ≡ cpus_of t.setup.value
length-told t lines = length-after (homes t) (start t) (deeds_of lines) ∙ length-start t.setup.value

pub deeds-more : (lines : List Line) (l : Line) → deeds_of (lines ++ l ∷ []) ≡ deeds_of lines ++ l.deed ∷ []
deeds-more lines l = map-append (λ (k : Line). k.deed) lines (l ∷ [])

pub told-more : (t : Terms) (lines : List Line) (l : Line) → told t (lines ++ l ∷ []) ≡ (whole (homes t) l.deed (told t lines)).1
told-more t lines l =
    ap (λ (ds : List Deed). machine_after (homes t) (start t) ds) (deeds-more lines l) ∙ machine_after-more (homes t) (start t) (deeds_of lines) l.deed

pub lines_by-more : (cpu : ℕ) (lines : List Line) (l : Line) → lines_by cpu (lines ++ l ∷ []) ≡ lines_by cpu lines ++ lines_by cpu (l ∷ [])
lines_by-more cpu lines l = filter-append (λ (k : Line). decider k.deed == cpu) lines (l ∷ [])

pub list_all-more : (p : Deed → Bool) (ds : List Deed) (d : Deed) → list_all p ds ≡ true → p d ≡ true → list_all p (ds ++ d ∷ []) ≡ true
list_all-more p ds d e f = list_all-append p ds (d ∷ []) ∙ ap (λ (x : Bool). x && (p d && true)) e ∙ ap (λ (x : Bool). x && true) f

pub history-more : (t : Terms) (lines : List Line) (l : Line) → AreHistory (homes t) (start t) lines → (whole (homes t) l.deed (told t lines)).0 ≡ l.answer
    → AreHistory (homes t) (start t) (lines ++ l ∷ [])
history-more t lines l is answer =
    ap (λ (ls : List Line). ls ++ l ∷ []) is
    ∙ ap (λ (a : Answer). lines_of (homes t) (start t) (deeds_of lines) ++ record { deed = l.deed; answer = a } ∷ []) (sym answer)
    ∙ sym (lines_of-more (homes t) (start t) (deeds_of lines) l.deed)
    ∙ ap (λ (ds : List Deed). lines_of (homes t) (start t) ds) (sym (deeds-more lines l))
