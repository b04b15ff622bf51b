-- A text that is laid out as tokens has these and no others.
use Rattle.std.proofs.Common.{◌≡◌, ℕ, zero, suc, true, List, [], ◌∷◌, map, sym, ◌∙◌, ap, subst, arith}
use Rattle.std.specs.List.{list_all}
use Rattle.std.specs.Char.{is_ascii}
use Rattle.std.specs.Str.{IsUtf8, IsAscii}
use Rattle.std.proofs.lemmas.Bool.{ltb-true}
use Rattle.std.proofs.lemmas.Str.{IsUtf8-from_ascii}
use Rattle.jr_base.specs.Reading.{Lex}
use Rattle.jr_base.specs.declared.kind.Kind.{Kind}
use Rattle.jr_base.specs.declared.token.Token.{Token}
use Rattle.jr_lex.specs.Texts.{tokens_of}
use Rattle.jr_lex.proofs.ByteLemmas.{both_left, both_right}
use Rattle.jr_lex.proofs.ChunkTexts.{text_reads}
use Rattle.jr_lex.proofs.Readings.{lex_one}
use Rattle.jr_prelude.proofs.Laid.{is_laid, laid}

-- the text reads as tokens of these kinds
pub record HasTokens (text : List ℕ) (ks : List Kind) : Type 0 where
  pub tokens : List Token
  pub lexed : Lex text tokens
  pub kinds : map (λ t. t.kind) tokens ≡ ks

ascii : (bs : List ℕ) → list_all is_ascii bs ≡ true → IsAscii bs
ascii [] h i = omega arith
ascii (b ∷ bs) h zero = ltb-true b 128 (both_left (is_ascii b) (list_all is_ascii bs) h)
ascii (b ∷ bs) h (suc i) = ascii bs (both_right (is_ascii b) (list_all is_ascii bs) h) i

pub has_tokens : (n : ℕ) (text : List ℕ) (ks : List Kind) → list_all is_ascii text ≡ true → is_laid n ks text ≡ true → HasTokens text ks
has_tokens n text ks low h =
    let l = laid n ks text h in
    let utf8 = IsUtf8-from_ascii text (ascii text low) in
    record {
      tokens = tokens_of 0 l.chunks;
      lexed = subst (λ text. Lex text (tokens_of 0 l.chunks)) l.spells (text_reads l.chunks (subst IsUtf8 (sym l.spells) utf8) l.stand);
      kinds = l.kinds 0;
    }

-- and as no others
pub only_tokens : {text : List ℕ} {ks : List Kind} → HasTokens text ks → (tokens : List Token) → Lex text tokens → map (λ t. t.kind) tokens ≡ ks
only_tokens {text} h tokens lex = ap (λ ts. map (λ (t : Token). t.kind) ts) (lex_one text tokens h.tokens lex h.lexed) ∙ h.kinds
