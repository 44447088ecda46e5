-- Which answer begins with which words.
use Rattle.std.proofs.Common.{◌≡◌, ◌⊎◌, ◌==◌, ℕ, true, false, List, [], ◌++◌, Option, Some, refl, sym, ◌∙◌, ap, subst, inl, inr}
use Rattle.std.specs.Prelude.{codes, slice_index}
use Rattle.std.proofs.lemmas.Bool.{eq-eqb}
use Rattle.devices.specs.declared.watched.Watched.{Watched}
use Rattle.append_text.specs.declared.text_form.TextForm.{TextForm}
use Rattle.lists_verdicts.specs.declared.answer.Answer.{Answer}
use Rattle.lists_verdicts.specs.declared.answer.Answer.TheVariants as It
use Rattle.lists_verdicts.specs.Meaning.Status.{words_of}
use Rattle.lists_cli.specs.declared.basis.Basis.{Basis}
use Rattle.lists_cli.specs.declared.run.Shape.TheVariants.{Words}
use Rattle.lists_cli.specs.Meaning.Answers.{Means, IsAnswer, HasOrder, order_text}
use Rattle.headline.specs.Headline.{IsListAnswer, Begins}
use Rattle.headline.proofs.Runs.{written}

-- the words differ at this place, where they have these bytes
clash : (k m n : ℕ) (xs ys : List ℕ) → xs ≡ ys → slice_index xs k ≡ m → slice_index ys k ≡ n → (m == n) ≡ false → ⊥
clash k m n xs ys same one other differ =
    let e : m ≡ n = sym one ∙ ap (λ zs. slice_index zs k) same ∙ other in
    let t : (m == n) ≡ true = eq-eqb m n e in cc

-- no answer's words begin another's
exact : (a b : Answer) (r s : List ℕ) → words_of a ++ r ≡ words_of b ++ s → a ≡ b
exact It.Serializable It.Serializable r s e = refl
exact It.Serializable It.NotSerializable r s e = absurd (clash 0 115 110 _ _ e refl refl refl)
exact It.Serializable It.NothingToCheck r s e = absurd (clash 0 115 110 _ _ e refl refl refl)
exact It.Serializable It.AppendedTwice r s e = absurd (clash 0 115 97 _ _ e refl refl refl)
exact It.NotSerializable It.Serializable r s e = absurd (clash 0 110 115 _ _ e refl refl refl)
exact It.NotSerializable It.NotSerializable r s e = refl
exact It.NotSerializable It.NothingToCheck r s e = absurd (clash 3 32 104 _ _ e refl refl refl)
exact It.NotSerializable It.AppendedTwice r s e = absurd (clash 0 110 97 _ _ e refl refl refl)
exact It.NothingToCheck It.Serializable r s e = absurd (clash 0 110 115 _ _ e refl refl refl)
exact It.NothingToCheck It.NotSerializable r s e = absurd (clash 3 104 32 _ _ e refl refl refl)
exact It.NothingToCheck It.NothingToCheck r s e = refl
exact It.NothingToCheck It.AppendedTwice r s e = absurd (clash 0 110 97 _ _ e refl refl refl)
exact It.AppendedTwice It.Serializable r s e = absurd (clash 0 97 115 _ _ e refl refl refl)
exact It.AppendedTwice It.NotSerializable r s e = absurd (clash 0 97 110 _ _ e refl refl refl)
exact It.AppendedTwice It.NothingToCheck r s e = absurd (clash 0 97 110 _ _ e refl refl refl)
exact It.AppendedTwice It.AppendedTwice r s e = refl

-- an answer that begins with some words is the one that has them
is : (a b : Answer) (answer rest : List ℕ) → answer ≡ words_of a ++ rest → Begins (words_of b) answer → a ≡ b
is a b answer rest e begins = exact a b rest begins.0 (sym e ∙ begins.1)

one : (a : Answer) (answer rest : List ℕ) → answer ≡ words_of a ++ rest
    → (Begins (codes "serializable") answer ⊎ Begins (codes "not serializable") answer)
    ⊎ (Begins (codes "nothing to check") answer ⊎ Begins (codes "appended twice") answer)
one It.Serializable answer rest e = inl (inl (rest, e))
one It.NotSerializable answer rest e = inl (inr (rest, e))
one It.NothingToCheck answer rest e = inr (inl (rest, e))
one It.AppendedTwice answer rest e = inr (inr (rest, e))

module _ {O W : Type 0} (of_order : O → Option (List ℕ)) (contents : W → Option (List ℕ)) (n : TextForm) (text : List ℕ) (a : Answer)
    (b : Basis) (old_order new_order : Watched O) (old new : Watched W) where
  pub list_answer : IsAnswer of_order contents Words n text a b old_order new_order old new → (answer order : List ℕ)
      → of_order old_order.device ≡ Some [] → of_order new_order.device ≡ Some order
      → contents old.device ≡ Some [] → contents new.device ≡ Some answer
      → IsListAnswer n text answer order
  list_answer it answer order blank_order held_order blank held =
      let said = it.written refl in
      let e : answer ≡ words_of a ++ said.rest = written contents old new (words_of a ++ said.rest) answer blank held said.written in
      let means : (b : Answer) → Begins (words_of b) answer → Means b it.order it.history =
      λ b begins. subst (λ x. Means x it.order it.history) (is a b answer said.rest e begins) it.means in
      let has : (b : Answer) → Begins (words_of b) answer → HasOrder of_order b it.history.labels.items it.order old_order new_order =
      λ b begins. subst (λ x. HasOrder of_order x it.history.labels.items it.order old_order new_order) (is a b answer said.rest e begins) it.has_order in
      record {
        history = it.history;
        says = it.says;
        yes = λ begins. (
          it.order,
          (means It.Serializable begins).0,
          written of_order old_order new_order (order_text it.history.labels.items it.order) order blank_order held_order (has It.Serializable begins),
        );
        no = means It.NotSerializable;
        nothing = means It.NothingToCheck;
        repeated = means It.AppendedTwice;
        one = one a answer said.rest e;
      }
