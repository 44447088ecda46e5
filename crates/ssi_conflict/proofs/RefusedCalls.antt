-- What is known after calls that may be refused.
use Rattle.std.proofs.Common.{◌&&◌, ◌≡◌, ℕ, Bool, true≢false, List, Option, Result, Ok, Err, OnOk, OnErr, IsErr, is_some, refl, sym, ◌∙◌, ap}
use Rattle.std.specs.declared.alloc.AllocError.{AllocError}
use Rattle.ssi_conflict.specs.Meaning.Calls.{Call, meets}
use Rattle.ssi_conflict.specs.Machinery.Rows.{Row, StandsFor}
use Rattle.ssi_conflict.specs.Mirror.{carried}
use Rattle.ssi_conflict.specs.declared.answer.Answer.{Answer}

-- the same rows and marks stand for the same calls
pub same_stands : (row row' : ℕ → Option Row) (marked marked' : ℕ → List ℕ → Bool) (calls : List Call)
    → ((t : ℕ) → row' t ≡ row t) → ((t : ℕ) (k : List ℕ) → marked' t k ≡ marked t k)
    → StandsFor row marked calls → StandsFor row' marked' calls
same_stands row row' marked marked' calls rows marks stands = record {
  allowed = stands.allowed;
  no_pivot = stands.no_pivot;
  tells = λ t u e. stands.tells t u (sym (rows t) ∙ e);
  keeps = λ t h. ap is_some (rows t) ∙ stands.keeps t h;
  marks = λ t k. marks t k ∙ (stands.marks t k ∙ ap (λ o. is_some o && meets t k calls) (sym (rows t)));
}

pub carried_refused : (c : Call) (calls : List Call) (r : Result Answer AllocError) → IsErr r
    → carried c calls r ≡ calls
carried_refused c calls (Ok a) h = absurd (true≢false (sym h))
carried_refused c calls (Err e) h = refl

pub on_ok : {A E : Type 0} (r : Result A E) (P Q : Type 0) → (P → Q) → OnOk r P → OnOk r Q
on_ok (Ok a) P Q f h = f h
on_ok (Err e) P Q f h = h

pub on_err : {A E : Type 0} (r : Result A E) (P Q : Type 0) → (P → Q) → OnErr r P → OnErr r Q
on_err (Ok a) P Q f h = h
on_err (Err e) P Q f h = f h
