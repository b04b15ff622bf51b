-- A text put together from gaps and spellings has just those tokens.
use Rattle.std.proofs.Common.{◌≡◌, ⊎_elim, inl, ℕ, zero, suc, ◌+◌, ◌<◌, true, ◌&&◌, ◌==◌, List, [], ◌∷◌, ◌++◌, length, take, drop, refl, sym, ◌∙◌, ap, subst, arith, length-append, append_assoc}
use Rattle.std.specs.Prelude.{slice_index, All}
use Rattle.std.proofs.lemmas.Bool.Decides.{nat_tests}
use Rattle.std.proofs.Math.Seq.{drop-append_seam}
use Rattle.std.proofs.lemmas.List.{append-nil}
use Rattle.jr_base.specs.Gaps.{is_line_end, opens_line_comment, IsGap}
use Rattle.jr_base.specs.Identifiers.{IsIdentifier}
use Rattle.jr_base.specs.Reading.{Reads, here, gap, token}
use Rattle.jr_base.specs.Tokens.{Spells, IsLongest, GapAt, LongestAt}
use Rattle.jr_base.specs.declared.kind.Kind.TheVariants.{Ident}
use Rattle.jr_base.specs.declared.token.Token.{Token}
use Rattle.jr_lex.specs.Texts.{Chunk, space, spelled, FollowsGap, text_of, tokens_of, AllStand, TextReads, GapFollowsExactly, IsNamed, NamesAreIdentifiers}
use Rattle.jr_lex.proofs.Following.{follows_longest}
use Rattle.jr_lex.proofs.EscapeLemmas.{index_inside}
use Rattle.jr_lex.proofs.Fronts.{index_front}
use Rattle.jr_lex.proofs.Longest.{comment_not_blank, line_or_block}
use Rattle.jr_lex.proofs.Respelling.{two, seam, gap_moved}

module _ (w rest : List ℕ) where
  gap_stands : IsGap w (length w) → FollowsGap w rest → IsGap (w ++ rest) (length w)
  gap_stands g f = gap_moved w [] rest (λ h l. f (subst (λ x. opens_line_comment x ≡ true) (append-nil w) h.opens) l) (subst (λ x. IsGap x (length w)) (sym (append-nil w)) g)

  opens_kept : opens_line_comment w ≡ true → opens_line_comment (w ++ rest) ≡ true
  opens_kept h =
      let inside : 1 < length w = index_inside w 1 (let e = second_slash w h in omega arith) in
      two (λ x y. (x == 47) && (y == 47)) _ _ _ _ (index_front w rest 0 (omega arith)) (index_front w rest 1 inside) ∙ h
    where
      second_slash : (w : List ℕ) → opens_line_comment w ≡ true → slice_index w 1 ≡ 47
      second_slash w h = grind (arith, nat_tests)

  gap_ends : IsGap (w ++ rest) (length w) → FollowsGap w rest
  gap_ends g opens some =
      let there = opens_kept opens in
      ⊎_elim
      (λ h. absurd (comment_not_blank (w ++ rest) (inl there) h.blank))
      (⊎_elim
      (λ h. sym (ap is_line_end (seam w rest)) ∙ h.ends (omega (arith, length-append w rest)))
      (λ h. absurd (line_or_block (w ++ rest) there h.opens)))
      g

pub gap_follows_exactly : GapFollowsExactly
gap_follows_exactly w rest g = (gap_stands w rest g, gap_ends w rest)

-- behind any front
abbrev ReadsBehind : List ℕ → List Chunk → Type 0
ReadsBehind front cs = Reads (front ++ text_of cs) (length front) (tokens_of (length front) cs) (length (front ++ text_of cs))

-- the rest reads on behind one more piece
go_on : (front w : List ℕ) (cs : List Chunk) → ReadsBehind (front ++ w) cs
    → Reads (front ++ (w ++ text_of cs)) (length front + length w) (tokens_of (length front + length w) cs) (length (front ++ (w ++ text_of cs)))
go_on front w cs h =
    let text = front ++ (w ++ text_of cs) in
    subst (λ n. Reads text n (tokens_of n cs) (length text)) (length-append front w)
    (subst (λ b. Reads b (length (front ++ w)) (tokens_of (length (front ++ w)) cs) (length b)) (append_assoc front w (text_of cs)) h)

reads_behind : (cs : List Chunk) → AllStand cs → (front : List ℕ) → ReadsBehind front cs
reads_behind [] a front = subst (λ n. Reads (front ++ []) (length front) [] n) (sym (ap length (append-nil front))) here
reads_behind (space w ∷ cs) a front =
    let rest = text_of cs in
    let there : GapAt (front ++ (w ++ rest)) (length front) (length front + length w) =
    (length w, refl, subst (λ x. IsGap x (length w)) (sym (drop-append_seam front (w ++ rest))) (gap_stands w rest a.0.0 a.0.1)) in
    gap there (go_on front w cs (reads_behind cs a.1 (front ++ w)))
reads_behind (spelled k w ∷ cs) a front =
    let rest = text_of cs in
    let start = length front in
    let there : LongestAt (front ++ (w ++ rest)) start (start + length w) k =
    (length w, refl, subst (λ x. IsLongest x (length w) k) (sym (drop-append_seam front (w ++ rest))) (follows_longest w rest k a.0.0 a.0.1)) in
    token {t = record { kind = k; span = record { start = start; end = start + length w } }} refl there (go_on front w cs (reads_behind cs a.1 (front ++ w)))

pub text_reads : TextReads
text_reads chunks u a = record { utf8 = u; reads = reads_behind chunks a [] }

-- names
spelled_named : (t : Token) (w : List ℕ) → Spells t.kind w → IsNamed t
spelled_named t w s name e =
    let own : Spells (Ident name) w = subst (λ k. Spells k w) e s in
    subst IsIdentifier own.0 own.1

one_more : (t : Token) (ts : List Token) → IsNamed t → All IsNamed ts → All IsNamed (t ∷ ts)
one_more t ts h hs zero d l = h
one_more t ts h hs (suc k) d l = hs k d (omega arith)

named : {bytes : List ℕ} {start stop : ℕ} {ts : List Token} → Reads bytes start ts stop → All IsNamed ts
named here = λ k d l. absurd (omega arith)
named (gap g r) = named r
named {bytes} (token {start = start} {t = t} {ts = ts} p h r) = one_more t ts (spelled_named t (take h.0 (drop start bytes)) h.2.stands.spells) (named r)

pub names_are_identifiers : NamesAreIdentifiers
names_are_identifiers bytes tokens lex = named lex.reads
