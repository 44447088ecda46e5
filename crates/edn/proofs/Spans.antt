-- The word at the front of a text.
use Rattle.std.proofs.Common.{◌≡◌, ℕ, suc, ◌+◌, Bool, true, false, cond, List, [], ◌∷◌, ◌++◌, length, take, drop, refl, ap, ◌∙◌, subst, arith}
use Rattle.std.specs.List.{prefix_len, list_all}
use Rattle.std.specs.Prelude.{not, ◌&&◌}
use Rattle.std.proofs.lemmas.Bool.{and_parts}
use Rattle.std.proofs.lemmas.Grind.{common_steps}
use Rattle.edn.specs.declared.token.Beyond.{Beyond}
use Rattle.edn.specs.Meaning.Bytes.{is_end, is_word_byte}
use Rattle.edn.specs.Meaning.Lexing.{Ends, IsWord}
use Rattle.edn.specs.Computing.Tokens.{Lexed, character_at, character_token}

one_more : (n : ℕ) → suc n ≡ 1 + n
one_more n = omega arith

not_word : (b : ℕ) (v : Bool) → is_end b ≡ v → not v ≡ false → is_end b ≡ true
not_word b true e h = e
not_word b false e h = absurd (cc)

-- what follows the word begins with a byte that ends it
pub span_ends : (text : List ℕ) → Ends (drop (prefix_len is_word_byte text) text)
span_ends [] = tt
span_ends (b ∷ bs) =
    elim (is_word_byte b) as (λ v. is_word_byte b ≡ v → Ends (drop (cond v (1 + prefix_len is_word_byte bs) 0) (b ∷ bs))) [
      | true ↦ λ e. subst (λ n. Ends (drop n (b ∷ bs))) (one_more (prefix_len is_word_byte bs)) (span_ends bs)
      | false ↦ λ e. not_word b (is_end b) refl e
    ] refl

pub span_word : (text : List ℕ) → IsWord (take (prefix_len is_word_byte text) text)
span_word [] = refl
span_word (b ∷ bs) =
    elim (is_word_byte b) as (λ v. is_word_byte b ≡ v → IsWord (take (cond v (1 + prefix_len is_word_byte bs) 0) (b ∷ bs))) [
      | true ↦ λ e. subst (λ n. IsWord (take n (b ∷ bs))) (one_more (prefix_len is_word_byte bs))
          (ap (λ v. v && list_all is_word_byte (take (prefix_len is_word_byte bs) bs)) e ∙ span_word bs)
      | false ↦ λ e. refl
    ] refl

pub end_is : (b : ℕ) → is_end b ≡ true → is_word_byte b ≡ false
end_is b e = ap not e

pub span_len : (name rest : List ℕ) → IsWord name → Ends rest → prefix_len is_word_byte (name ++ rest) ≡ length name
span_len [] [] w h = refl
span_len [] (b ∷ bs) w h = rw h refl
span_len (b ∷ bs) rest w h =
    let both = and_parts (is_word_byte b) (list_all is_word_byte bs) w in
    let len = span_len bs rest both.1 h in
    rw both.0 (omega (arith, len))

take_name : (name rest : List ℕ) → take (length name) (name ++ rest) ≡ name
take_name name rest = grind (arith, common_steps)

drop_name : (name rest : List ℕ) → drop (length name) (name ++ rest) ≡ rest
drop_name name rest = grind (arith, common_steps)

-- what the word at the front and what follows it are read as
abbrev pub by_word : (List ℕ → List ℕ → Lexed) → List ℕ → Lexed
by_word read text = read (take (prefix_len is_word_byte text) text) (drop (prefix_len is_word_byte text) text)

pub word_parts : (read : List ℕ → List ℕ → Lexed) (name rest : List ℕ) → IsWord name → Ends rest
    → by_word read (name ++ rest) ≡ read name rest
word_parts read name rest w e = rw (span_len name rest w e, take_name name rest, drop_name name rest) refl

-- so is what follows the first byte of a character
pub character_word : (beyond : Beyond) (b : ℕ) (bs : List ℕ)
    → character_token beyond (b ∷ bs) ≡ by_word (λ name rest. character_at beyond (b ∷ name) rest) bs
character_word beyond b bs =
    let one : prefix_len is_word_byte bs + 1 ≡ suc (prefix_len is_word_byte bs) = omega arith in
    ap (λ n. character_at beyond (take n (b ∷ bs)) (drop n (b ∷ bs))) one
