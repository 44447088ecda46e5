-- What a hub stands for after a run.
use Rattle.std.proofs.Common.{◌≡◌, ◌≢◌, ℕ, ◌<◌, ◌≤◌, List, [], ◌∷◌, ◌++◌, Bool, true, false, cond, Option, Some, None, Result, Ok, Err, length}
use Rattle.std.proofs.Common.{refl, sym, ap, subst, ◌∙◌, append_assoc, append-nil, inl, inr, ◌⊎◌, arith}
use Rattle.std.specs.Prelude.{◌==◌, IsSome, IsOk, is_err}
use Rattle.std.proofs.lemmas.Option.{same_Some, none-some}
use Rattle.std.proofs.lemmas.Bool.{eq-eqb, ne_eqb, both_ways}
use Rattle.std.proofs.lemmas.List.Elements.{All-nil, All-append, All-head}
use Rattle.adya_line.specs.Meaning.Lines.{IsPlain}
use Rattle.adya_text.specs.Meaning.Texts.{with_ends}
use Rattle.ssi_store.specs.Meaning.Courses.{Course}
use Rattle.ssi_line.specs.Meaning.Steps.{Step, Stopped, AreStepsOf, AllGoOn, steps_text, is_stop, course_with, course_after, AllMayFollow}
use Rattle.ssi_line.specs.Clauses.Ends.{WentOn}
use Rattle.ssi_line.specs.Clauses.Answers.{kept}
use Rattle.ssi_hub.specs.Clauses.Clipping.{clipped, has_line}
use Rattle.ssi_hub.specs.Clauses.Buffers.{Buffers}
use Rattle.ssi_hub.specs.Clauses.Runs.{EndsSo, CarriedOut, IsEnough, IsTaken, left_by}
use Rattle.ssi_hub.specs.Clauses.Calls.{Call, Received, Ran, Wrote, Closed, is_open, all_steps, with_call, with_run}
use Rattle.ssi_hub.specs.Clauses.Serving.{IsServed, StandsFor}
use Rattle.ssi_hub.specs.Machinery.Changes.{Changes, RanAt}
use Rattle.ssi_hub.proofs.Served.{served_ran}
use Rattle.ssi_hub.proofs.Clips.{one_cut}
use Rattle.ssi_hub.proofs.Carrying.{cut_bytes, kept_first, feeds}
use Rattle.ssi_hub.proofs.Standing.{shown, stands_same, stands_more, closed_stands, given_open}

ends_both : (stops : Bool) (before steps : List Step) → AllGoOn before → EndsSo stops steps → EndsSo stops (before ++ steps)
ends_both false before steps all ends = All-append (λ s. is_stop s ≡ false) before steps all ends
ends_both true before steps all ends = record {
  before = before ++ ends.before;
  go_on = All-append (λ s. is_stop s ≡ false) before ends.before all ends.go_on;
  is = ap (λ (l : List Step). before ++ l) ends.is ∙ sym (append_assoc before ends.before (Stopped ∷ []));
}

pub opened_by : (o : Bool) (left unsent : List ℕ) (old : Buffers) → Some old ≡ shown o left unsent
    → (o ≡ true) × (old ≡ record { waiting = clipped left; unsent = unsent })
opened_by true left unsent old is = (refl, same_Some old (record { waiting = clipped left; unsent = unsent }) is)
opened_by false left unsent old is = absurd (none-some old (sym is))

-- the buffers with those of one connection changed
abbrev with_one : (ℕ → Option Buffers) → ℕ → Option Buffers → ℕ → Option Buffers
with_one b t now u = cond (u == t) now (b u)

one_own : (b : ℕ → Option Buffers) (t : ℕ) (now : Option Buffers) → with_one b t now t ≡ now
one_own b t now = ap (λ e. cond e now (b t)) (eq-eqb t t refl)

one_other : (b : ℕ → Option Buffers) (t : ℕ) (now : Option Buffers) (u : ℕ) → u ≢ t → with_one b t now u ≡ b u
one_other b t now u apart = ap (λ e. cond e now (b u)) (ne_eqb u t apart)

-- the lines were carried out, whether the last reply is lost or not
ran_open : {T : Type 0} (keeps : Bool) (is_at : T → Course → Type 0) (b new : ℕ → Option Buffers) (next t : ℕ) (stops lost : Bool)
    (old now : Buffers) (bytes left unsent : List ℕ) (lines : List (List ℕ)) (steps : List Step) (store after : T)
    (calls : List Call) → StandsFor keeps b next false calls → is_open t calls ≡ true → IsServed keeps t calls bytes unsent
    → old ≡ record { waiting = clipped bytes; unsent = unsent }
    → CarriedOut keeps is_at old bytes store stops lost lines steps left now after
    → new t ≡ Some (record { waiting = clipped left; unsent = unsent ++ steps_text steps })
    → ((u : ℕ) → u ≢ t → new u ≡ b u) → StandsFor keeps new next stops (Ran t lines steps ∷ calls)
ran_open keeps is_at b new next t stops lost old now bytes left unsent lines steps store after calls s opened served is so self others =
    stands_more keeps b new next false stops (Ran t lines steps) calls s (given_open next t calls s.given opened) others (
      left,
      unsent ++ steps_text steps,
      served_ran keeps t lines steps calls bytes unsent left so.plain so.cut so.made served,
      self ∙ ap (λ o. shown o left (unsent ++ steps_text steps)) (sym opened),
    ) (ends_both stops (all_steps calls) steps s.ends so.ends)

-- the call is one of an open connection
ran_noted : (t : ℕ) (lines : List (List ℕ)) (steps : List Step) (calls : List Call) → is_open t calls ≡ true
    → Ran t lines steps ∷ calls ≡ with_call (Ran t lines steps) calls
ran_noted t lines steps calls opened = sym (ap (λ o. cond o (Ran t lines steps ∷ calls) calls) opened)

pub closed_adds_none : (t : ℕ) (calls : List Call) → all_steps (with_call (Closed t) calls) ≡ all_steps calls
closed_adds_none t calls = by_open (is_open t calls)
  where
    by_open : (o : Bool) → all_steps (cond o (Closed t ∷ calls) calls) ≡ all_steps calls
    by_open true = refl
    by_open false = refl

pub quiet_received : (t : ℕ) (bytes : List ℕ) (calls : List Call)
    → all_steps (with_call (Received t bytes) calls) ≡ all_steps calls
quiet_received t bytes calls = by_open (is_open t calls)
  where
    by_open : (o : Bool) → all_steps (cond o (Received t bytes ∷ calls) calls) ≡ all_steps calls
    by_open true = refl
    by_open false = refl

pub quiet_wrote : (t : ℕ) (bytes : List ℕ) (calls : List Call)
    → all_steps (with_call (Wrote t bytes) calls) ≡ all_steps calls
quiet_wrote t bytes calls = by_open (is_open t calls)
  where
    by_open : (o : Bool) → all_steps (cond o (Wrote t bytes ∷ calls) calls) ≡ all_steps calls
    by_open true = refl
    by_open false = refl

pub run_adds : (lost : Bool) (t : ℕ) (lines : List (List ℕ)) (steps : List Step) (calls : List Call) → is_open t calls ≡ true
    → all_steps (with_run lost t lines steps calls) ≡ all_steps calls ++ steps
run_adds false t lines steps calls opened = ap (λ (l : List Call). all_steps l) (sym (ran_noted t lines steps calls opened))
run_adds true t lines steps calls opened =
    closed_adds_none t (with_call (Ran t lines steps) calls)
    ∙ ap (λ (l : List Call). all_steps l) (sym (ran_noted t lines steps calls opened))

none_added : (t : ℕ) (calls : List Call) → all_steps (with_run false t [] [] calls) ≡ all_steps calls ++ []
none_added t calls = by_open (is_open t calls)
  where
    by_open : (o : Bool) → all_steps (cond o (Ran t [] [] ∷ calls) calls) ≡ all_steps calls ++ []
    by_open true = refl
    by_open false = sym (append-nil (all_steps calls))

-- ---- which lines were carried out

not_stopped : (stops : Bool) → EndsSo stops [] → stops ≡ false
not_stopped false ends = refl
not_stopped true ends = absurd (not_last ends.before ends.is)
  where
    not_last : (before : List Step) → [] ≡ before ++ (Stopped ∷ []) → ⊥
    not_last [] is = cc
    not_last (s ∷ ss) is = cc

not_lost : (lost : Bool) → (lost ≡ true → 0 < 0) → lost ≡ false
not_lost false some = refl
not_lost true some = absurd (omega (arith, some refl))

no_steps : (keeps : Bool) (steps : List Step) → AreStepsOf keeps [] steps → steps ≡ []
no_steps keeps [] made = refl
no_steps keeps (s ∷ ss) made = absurd made

-- a line was carried out if one could be, and it is the one that waited
first_taken : {T : Type 0} (keeps : Bool) (is_at : T → Course → Type 0) (old now : Buffers) (bytes left : List ℕ) (stops lost : Bool)
    (most : ℕ) (lines : List (List ℕ)) (steps : List Step) (store after : T) (line rest : List ℕ)
    → CarriedOut keeps is_at old bytes store stops lost lines steps left now after → IsEnough stops lost most lines now
    → old.waiting ≡ clipped bytes → old.waiting ≡ line ++ (10 ∷ rest) → IsPlain line → length old.unsent ≤ 65536 → 0 < most
    → (text : List ℕ) × (others : List (List ℕ)) × (lines ≡ text ∷ others) × (kept line ≡ kept text)
first_taken keeps is_at old now bytes left stops lost most (text ∷ others) steps store after line rest so enough waits is plain short one =
    let (whole, behind, without, cut, front, more) = cut_bytes bytes line rest (sym waits ∙ is) plain in
    let same : text ≡ whole =
    (one_cut text (with_ends others ++ left) whole behind (All-head IsPlain text others so.plain) without
    (sym (append_assoc text (10 ∷ with_ends others) left) ∙ sym so.cut ∙ cut)).0 in
    (text, others, refl, ap (λ (l : List ℕ). kept l) front ∙ kept_first whole ∙ ap (λ (l : List ℕ). kept l) (sym same))
first_taken keeps is_at old now bytes left stops lost most [] steps store after line rest so enough waits is plain short one =
    let none : steps ≡ [] = no_steps keeps steps so.made in
    let goes : stops ≡ false = not_stopped stops (subst (λ (l : List Step). EndsSo stops l) none so.ends) in
    let replied : lost ≡ false = not_lost lost enough.some in
    let still : has_line now.waiting ≡ true =
    ap (λ (l : List ℕ). has_line l) (so.waits ∙ ap (λ (l : List ℕ). clipped l) (sym so.cut) ∙ sym waits ∙ is) ∙ feeds line rest in
    let unsent : now.unsent ≡ old.unsent =
    so.replies replied ∙ ap (λ (l : List Step). old.unsent ++ steps_text l) none ∙ append-nil old.unsent in
    absurd (paused enough.paused goes replied still (ap (λ (l : List ℕ). length l) unsent))
  where
    paused : (stops ≡ false → lost ≡ false → has_line now.waiting ≡ true → (0 ≡ most) ⊎ (65536 < length now.unsent))
        → stops ≡ false → lost ≡ false → has_line now.waiting ≡ true → length now.unsent ≡ length old.unsent → ⊥
    paused why goes replied still counted = by_reason (why goes replied still)
      where
        by_reason : (0 ≡ most) ⊎ (65536 < length now.unsent) → ⊥
        by_reason (inl all) = absurd (omega (arith, all, one))
        by_reason (inr many) = absurd (omega (arith, many, counted, short))

none_taken : (keeps : Bool) (stopped lost : Bool) (most : ℕ) (had : Option Buffers) → (stopped ≡ true) ⊎ (had ≡ None) → lost ≡ false
    → IsTaken keeps stopped lost most had [] []
none_taken keeps stopped lost most had why fine = record {
  few = omega arith;
  some = λ e. absurd (both_ways lost fine e);
  made = tt;
  first = λ b line rest goes has is plain short one. absurd (neither b why goes has);
}
  where
    neither : (b : Buffers) → (stopped ≡ true) ⊎ (had ≡ None) → stopped ≡ false → had ≡ Some b → ⊥
    neither b (inl is) goes has = absurd (both_ways stopped goes is)
    neither b (inr none) goes has = absurd (none-some b (sym none ∙ has))

-- the lines were carried out, and the connection is closed if the last reply is lost
pub carried_stands : {T : Type 0} (keeps : Bool) (is_at : T → Course → Type 0) (b new : ℕ → Option Buffers) (next t : ℕ) (stops lost : Bool)
    (before now : Buffers) (bytes unsent left : List ℕ) (lines : List (List ℕ)) (steps : List Step) (store after : T)
    (calls : List Call) → StandsFor keeps b next false calls → is_open t calls ≡ true → IsServed keeps t calls bytes unsent
    → before ≡ record { waiting = clipped bytes; unsent = unsent }
    → CarriedOut keeps is_at before bytes store stops lost lines steps left now after → Changes b new t (left_by lost now)
    → StandsFor keeps new next stops (with_run lost t lines steps calls)
carried_stands keeps is_at b new next t stops lost before now bytes unsent left lines steps store after calls s opened served is =
    by_loss lost
  where
    by_loss : (lost : Bool) → CarriedOut keeps is_at before bytes store stops lost lines steps left now after
        → Changes b new t (left_by lost now) → StandsFor keeps new next stops (with_run lost t lines steps calls)
    by_loss false so changes =
        subst (λ (l : List Call). StandsFor keeps new next stops l) (ran_noted t lines steps calls opened)
        (ran_open keeps is_at b new next t stops false before now bytes left unsent lines steps store after calls s opened served is
        so
        (changes.own ∙ ap (λ (w : List ℕ). Some (record { waiting = w; unsent = now.unsent })) so.waits
        ∙ ap (λ (u : List ℕ). Some (record { waiting = clipped left; unsent = u }))
        (so.replies refl ∙ ap (λ (x : Buffers). x.unsent ++ steps_text steps) is))
        changes.others)
    by_loss true so changes =
        let mid : Option Buffers = Some (record { waiting = clipped left; unsent = unsent ++ steps_text steps }) in
        closed_stands keeps (with_one b t mid) new next next stops stops t (with_call (Ran t lines steps) calls)
        (subst (λ (l : List Call). StandsFor keeps (with_one b t mid) next stops l) (ran_noted t lines steps calls opened)
        (ran_open keeps is_at b (with_one b t mid) next t stops true before now bytes left unsent lines steps store after calls s
        opened served is so (one_own b t mid) (one_other b t mid)))
        changes.own (λ u apart. changes.others u apart ∙ sym (one_other b t mid u apart)) refl refl

pub ran_stands : {T : Type 0} (keeps : Bool) (is_at : T → Course → Type 0) (b new : ℕ → Option Buffers) (next t : ℕ) (stops lost : Bool)
    (most : ℕ) (store after : T) (calls : List Call) → StandsFor keeps b next false calls
    → RanAt keeps is_at b t store stops lost most new after
    → (lines : List (List ℕ)) × (steps : List Step) × IsTaken keeps false lost most (b t) lines steps
    × StandsFor keeps new next stops (with_run lost t lines steps calls)
    × WentOn is_at store steps after × (all_steps (with_run lost t lines steps calls) ≡ all_steps calls ++ steps)
ran_stands keeps is_at b new next t stops lost most store after calls s ran =
    let (bytes, unsent, served, has) = s.served t in
    let (opened, is) = opened_by (is_open t calls) bytes unsent ran.before (sym ran.has ∙ has) in
    let (lines, steps, left, so, enough) = ran.carried bytes (ap (λ (x : Buffers). x.waiting) is) in (
      lines,
      steps,
      record {
        few = enough.few;
        some = enough.some;
        made = so.made;
        first = λ x line rest goes had waits plain short one.
            let same = same_Some ran.before x (sym ran.has ∙ had) in
            first_taken keeps is_at ran.before ran.now bytes left stops lost most lines steps store after line rest so enough
            (ap (λ (y : Buffers). y.waiting) is) (ap (λ (y : Buffers). y.waiting) same ∙ waits) plain
            (subst (λ (y : Buffers). length y.unsent ≤ 65536) (sym same) short) one;
      },
      carried_stands keeps is_at b new next t stops lost ran.before ran.now bytes unsent left lines steps store after calls s
          opened served is so ran.changes,
      so.went,
      run_adds lost t lines steps calls opened,
    )

-- no line was carried out
pub nothing_ran : (keeps : Bool) (b : ℕ → Option Buffers) (next t : ℕ) (stopped : Bool) (calls : List Call) → StandsFor keeps b next stopped calls
    → StandsFor keeps b next stopped (with_run false t [] [] calls)
nothing_ran keeps b next t stopped calls s = by_open (is_open t calls) refl
  where
    by_open : (o : Bool) → is_open t calls ≡ o → StandsFor keeps b next stopped (cond o (Ran t [] [] ∷ calls) calls)
    by_open false is = s
    by_open true is =
        let (left, unsent, served, has) = s.served t in
        stands_more keeps b b next stopped stopped (Ran t [] []) calls s (given_open next t calls s.given is) (λ _ _. refl) (
          left,
          unsent,
          subst (λ (l : List ℕ). IsServed keeps t (Ran t [] [] ∷ calls) left l) (append-nil unsent)
              (served_ran keeps t [] [] calls left unsent left (All-nil IsPlain) refl tt served),
          has,
        ) (subst (λ (l : List Step). EndsSo stopped l) (sym (append-nil (all_steps calls))) s.ends)

one_is : (x : Buffers) → IsSome (Some x)
one_is x = refl

-- ---- a run, whatever it met

pub no_error : {T E : Type 0} (r : Result T E) → IsOk r → is_err r ≡ false
no_error (Ok x) is = refl
no_error (Err e) is = cc

pub run_stands : {T : Type 0} (keeps : Bool) (is_at : T → Course → Type 0) (b new : ℕ → Option Buffers) (next later t : ℕ)
    (stopped ends lost : Bool) (most : ℕ) (store after : T) (calls : List Call) → StandsFor keeps b next stopped calls
    → ((stopped ≡ true) ⊎ (b t ≡ None) → ((u : ℕ) → new u ≡ b u) × (ends ≡ stopped) × (after ≡ store))
    → ((stopped ≡ true) ⊎ (b t ≡ None) → lost ≡ false)
    → (stopped ≡ false → IsSome (b t) → RanAt keeps is_at b t store ends lost most new after) → later ≡ next
    → (lines : List (List ℕ)) × (steps : List Step) × IsTaken keeps stopped lost most (b t) lines steps
    × StandsFor keeps new later ends (with_run lost t lines steps calls) × WentOn is_at store steps after
    × (all_steps (with_run lost t lines steps calls) ≡ all_steps calls ++ steps)
run_stands keeps is_at b new next later t stopped ends lost most store after calls s idle fine ran next_is = by_stop stopped refl
  where
    nothing : (stopped ≡ true) ⊎ (b t ≡ None) → (lines : List (List ℕ)) × (steps : List Step)
        × IsTaken keeps stopped lost most (b t) lines steps × StandsFor keeps new later ends (with_run lost t lines steps calls)
        × WentOn is_at store steps after × (all_steps (with_run lost t lines steps calls) ≡ all_steps calls ++ steps)
    nothing why =
        let (same, stops, store_is) = idle why in (
          [],
          [],
          none_taken keeps stopped lost most (b t) why (fine why),
          stands_same keeps b new next later stopped ends (with_run lost t [] [] calls) same next_is stops
              (subst (λ e. StandsFor keeps b next stopped (with_run e t [] [] calls)) (sym (fine why))
              (nothing_ran keeps b next t stopped calls s)),
          λ course at. (tt, subst (λ x. is_at x course) (sym store_is) at),
          subst (λ e. all_steps (with_run e t [] [] calls) ≡ all_steps calls ++ []) (sym (fine why)) (none_added t calls),
        )

    by_stop : (o : Bool) → stopped ≡ o → (lines : List (List ℕ)) × (steps : List Step)
        × IsTaken keeps stopped lost most (b t) lines steps × StandsFor keeps new later ends (with_run lost t lines steps calls)
        × WentOn is_at store steps after × (all_steps (with_run lost t lines steps calls) ≡ all_steps calls ++ steps)
    by_stop true is = nothing (inl is)
    by_stop false is = by_buffers (b t) refl
      where
        by_buffers : (o : Option Buffers) → b t ≡ o → (lines : List (List ℕ)) × (steps : List Step)
            × IsTaken keeps stopped lost most (b t) lines steps × StandsFor keeps new later ends (with_run lost t lines steps calls)
            × WentOn is_at store steps after × (all_steps (with_run lost t lines steps calls) ≡ all_steps calls ++ steps)
        by_buffers None none = nothing (inr none)
        by_buffers (Some x) some =
            let so = ran is (subst (λ (o : Option Buffers). IsSome o) (sym some) (one_is x)) in
            let (lines, steps, one, stands, went, more) =
            ran_stands keeps is_at b new next t ends lost most store after calls
            (subst (λ e. StandsFor keeps b next e calls) is s) so in (
              lines,
              steps,
              subst (λ e. IsTaken keeps e lost most (b t) lines steps) (sym is) one,
              subst (λ n. StandsFor keeps new n ends (with_run lost t lines steps calls)) (sym next_is) stands,
              went,
              more,
            )

-- ---- the course of the store

follow_both : (course : Course) (xs ys : List Step) → AllMayFollow course xs → AllMayFollow (course_after course xs) ys
    → AllMayFollow course (xs ++ ys)
follow_both course [] ys p q = q
follow_both course (x ∷ xs) ys p q = (p.0, follow_both (course_with course x) xs ys p.1 q)

after_both : (course : Course) (xs ys : List Step)
    → course_after course (xs ++ ys) ≡ course_after (course_after course xs) ys
after_both course [] ys = refl
after_both course (x ∷ xs) ys = after_both (course_with course x) xs ys

-- it goes on by the steps of the run
pub course_goes_on : {T : Type 0} (is_at : T → Course → Type 0) (start : Course) (calls later : List Call) (steps : List Step)
    (store after : T) → AllMayFollow start (all_steps calls) → is_at store (course_after start (all_steps calls))
    → WentOn is_at store steps after → all_steps later ≡ all_steps calls ++ steps
    → AllMayFollow start (all_steps later) × is_at after (course_after start (all_steps later))
course_goes_on is_at start calls later steps store after follow at went more =
    let now = went (course_after start (all_steps calls)) at in (
      subst (λ (l : List Step). AllMayFollow start l) (sym more) (follow_both start (all_steps calls) steps follow now.0),
      subst (λ (c : Course). is_at after c)
          (sym (ap (λ (l : List Step). course_after start l) more ∙ after_both start (all_steps calls) steps)) now.1,
    )
