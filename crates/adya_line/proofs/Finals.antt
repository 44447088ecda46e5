-- What is read is the line's final, and each final is read from its line.
use Rattle.std.proofs.Common.{◌≡◌, ℕ, List, [], ◌∷◌, ◌++◌, Some, refl, sym, ◌∙◌, append_assoc}
use Rattle.std.specs.Prelude.{codes}
use Rattle.adya_keys.specs.Meaning.Keys.{is_key_byte, is_value_byte}
use Rattle.adya_values.specs.Meaning.Histories.{FinalPair}
use Rattle.adya_line.specs.Meaning.Spelling.{final_text}
use Rattle.adya_line.specs.Meaning.Limits.{IsFinal}
use Rattle.adya_line.specs.Computing.Reading.{after, final_at}
use Rattle.adya_line.proofs.LineParts.{Only, then, if_then, ended, after_takes, text_takes, text_again, key_between_takes}
use Rattle.adya_line.proofs.LineParts.{key_between_again}

final_then : FinalPair → List ℕ
final_then f = 123 ∷ (f.key ++ (44 ∷ (f.value ++ (125 ∷ []))))

nest : (a b : List ℕ) → codes "{" ++ a ++ codes "," ++ b ++ codes "}" ≡ 123 ∷ (a ++ (44 ∷ (b ++ (125 ∷ []))))
nest a b = simp append_assoc

final_then-is : (f : FinalPair) → final_text f ≡ final_then f
unfolding final_text final_then
final_then-is f = nest f.key f.value

pub final_takes : (line : List ℕ) → Only (final_at line) (λ f. (line ≡ final_text f) × IsFinal f)
unfolding final_at final_then
final_takes line =
    then (key_between_takes 123 44 line) (λ (key : List ℕ × List ℕ) k.
    then (text_takes 64 is_value_byte key.1) (λ (value : List ℕ × List ℕ) v.
    then (after_takes 125 value.1) (λ (end : List ℕ) n.
    if_then _ _ (λ e.
    let f : FinalPair = record { key = key.0; value = value.0 } in
    let same : line ≡ final_then f = rw (k.0, v.0, n, ended end e) refl in
    (same ∙ sym (final_then-is f), record { key = k.1; value = v.1 })))))

pub final_again : (f : FinalPair) → IsFinal f → final_at (final_text f) ≡ Some f
unfolding final_at final_then after is_key_byte is_value_byte
final_again f is =
    rw (
      final_then-is f,
      key_between_again 123 44 f.key (f.value ++ (125 ∷ [])) is.key refl,
      text_again 64 is_value_byte f.value (125 ∷ []) is.value refl,
    ) refl
