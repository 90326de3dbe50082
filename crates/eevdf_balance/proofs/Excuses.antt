-- Between a refusal and a crowded source a task has come there, or gone.
use Rattle.std.proofs.Common.{◌≡◌, ℕ, ◌≤◌, List, [], ◌∷◌, ◌++◌, refl, sym, ap, subst, ◌∙◌, inl, inr, arith}
use Rattle.eevdf_ops.specs.{declared.deeds.Deed.Deed, declared.deeds.Answer.Answer, declared.deeds.Line.Line, declared.deeds.Deed.TheVariants.Pull}
use Rattle.eevdf_ops.specs.{Machine.Machine, Places.count, Programs.deeds_of, Whole.whole, Whole.lines_of, Whole.machine_after}
use Rattle.eevdf_ops.specs.Histories.{machine_told}
use Rattle.eevdf_balance.specs.Crowds.{tasks_at, IsIdle, IsCrowded, comes, comings}
use Rattle.eevdf_balance.specs.{Refusals.IsRefusal, Excuses.RefusalIsExcused, Excuses.StaleLookIsExcused, Excuses.RefusalIsExcusedInHistory}
use Rattle.eevdf_balance.proofs.{Crowds.told-by-line, Crowds.lines_tell_tasks, IdlePulls.refused-few}

-- nobody comes by a pull that is refused
none_comes : (c cpu source : ℕ) (a : Answer) → IsRefusal a → count (comes c (Pull cpu source) a) ≡ 0
none_comes c cpu source a (inl h) = ap (λ (x : Answer). count (comes c (Pull cpu source) x)) h
none_comes c cpu source a (inr h) = ap (λ (x : Answer). count (comes c (Pull cpu source) x)) h

-- after the refusal the source has one task at most
pub few-after : (homes : List ℕ) (m : Machine) (cpu source : ℕ) → IsIdle m cpu → IsRefusal (whole homes (Pull cpu source) m).0 → tasks_at (whole homes (Pull cpu source) m).1 source ≤ 1
few-after homes m cpu source idle refused =
    let step = (told-by-line homes (Pull cpu source) m source).0 in
    omega (arith, step, none_comes source cpu source (whole homes (Pull cpu source) m).0 refused, refused-few homes m cpu source idle refused)

pub refusal_is_excused : RefusalIsExcused
refusal_is_excused homes m cpu source later idle refused crowded =
    omega (arith, few-after homes m cpu source idle refused, (lines_tell_tasks homes (whole homes (Pull cpu source) m).1 later source).most, crowded)

pub stale_look_is_excused : StaleLookIsExcused
stale_look_is_excused homes m cpu source deeds crowded idle refused =
    omega (arith, refused-few homes (machine_after homes m deeds) cpu source idle refused, (lines_tell_tasks homes m deeds source).least, crowded)

-- ---- histories
pub deeds-joined : (xs ys : List Line) → deeds_of (xs ++ ys) ≡ deeds_of xs ++ deeds_of ys
deeds-joined [] ys = refl
deeds-joined (x ∷ xs) ys = ap (λ (ds : List Deed). x.deed ∷ ds) (deeds-joined xs ys)

pub machine-joined : (homes : List ℕ) (m : Machine) (ds es : List Deed) → machine_after homes m (ds ++ es) ≡ machine_after homes (machine_after homes m ds) es
machine-joined homes m [] es = refl
machine-joined homes m (d ∷ ds) es = machine-joined homes (whole homes d m).1 ds es

-- the lines behind others tell the deeds that are done behind theirs
pub told-behind : (homes : List ℕ) (m : Machine) (xs ys : List Line) → xs ++ ys ≡ lines_of homes m (deeds_of (xs ++ ys)) → ys ≡ lines_of homes (machine_after homes m (deeds_of xs)) (deeds_of ys)
told-behind homes m [] ys h = h
told-behind homes m (x ∷ xs) ys h = told-behind homes (whole homes x.deed m).1 xs ys (let rest : xs ++ ys ≡ lines_of homes (whole homes x.deed m).1 (deeds_of (xs ++ ys)) = cc in rest)

pub same-parts : (d : Deed) (a b : Answer) (xs ys : List Line) → record { deed = d; answer = a } ∷ xs ≡ record { deed = d; answer = b } ∷ ys → (a ≡ b) × (xs ≡ ys)
same-parts d a b xs ys h =
    let x : Line = record { deed = d; answer = a } in
    let y : Line = record { deed = d; answer = b } in
    let first : x ≡ y = cc in
    (ap (λ (l : Line). l.answer) first, cc)

excused_by : (homes : List ℕ) (m : Machine) (cpu source : ℕ) (a : Answer) (later : List Line) → record { deed = Pull cpu source; answer = a } ∷ later ≡ lines_of homes m (Pull cpu source ∷ deeds_of later)
    → IsIdle m cpu → IsRefusal a → IsCrowded (machine_after homes (whole homes (Pull cpu source) m).1 (deeds_of later)) source → 1 ≤ comings source later
excused_by homes m cpu source a later told idle refused crowded =
    let same = same-parts (Pull cpu source) a (whole homes (Pull cpu source) m).0 later (lines_of homes (whole homes (Pull cpu source) m).1 (deeds_of later)) told in
    subst (λ (ls : List Line). 1 ≤ comings source ls) (sym same.1)
    (refusal_is_excused homes m cpu source (deeds_of later) idle (subst (λ (x : Answer). IsRefusal x) same.0 refused) crowded)

pub refusal_is_excused_in_history : RefusalIsExcusedInHistory
refusal_is_excused_in_history homes start lines cpu source later history tried crowded =
    let line : Line = record { deed = Pull cpu source; answer = tried.answer } in
    let reached : Machine = machine_told homes start tried.before in
    let told : tried.before ++ line ∷ later ≡ lines_of homes start (deeds_of (tried.before ++ line ∷ later)) = subst (λ (ls : List Line). ls ≡ lines_of homes start (deeds_of ls)) tried.told history in
    let after : machine_told homes start lines ≡ machine_after homes (whole homes (Pull cpu source) reached).1 (deeds_of later) =
    ap (machine_told homes start) tried.told
    ∙ ap (machine_after homes start) (deeds-joined tried.before (line ∷ later))
    ∙ machine-joined homes start (deeds_of tried.before) (Pull cpu source ∷ deeds_of later) in
    excused_by homes reached cpu source tried.answer later (told-behind homes start tried.before (line ∷ later) told) tried.idle tried.refused
    (subst (λ (m : Machine). IsCrowded m source) after crowded)
