-- A rename has one answer.
use Rattle.std.proofs.Common.{◌≡◌, inl, inr, ℕ, ◌<◌, ◌≤◌, List, [], ◌∷◌, length, suc, zero, Some, None, Option, refl, sym, ap, subst, ◌∙◌, arith}
use Rattle.std.specs.Prelude.{slice_index_or}
use Rattle.std.proofs.lemmas.List.{ext_get_or}
use Rattle.jr_base.specs.Respelled.{respelled}
use Rattle.jr_base.specs.declared.token.Token.{Token}
use Rattle.jr_lex.proofs.Readings.{lex_one}
use Rattle.jr_thin.specs.declared.answers.Renaming.TheVariants.{NotServed, NoSpelling, BrokenRule, Renamed}
use Rattle.jr_thin.specs.declared.reading.Phase.TheVariants.{Start}
use Rattle.jr_thin.specs.declared.sites.Site.{Site}
use Rattle.jr_thin.specs.declared.sites.Role.TheVariants.{Plain, Use}
use Rattle.jr_thin.specs.Laws.{OneAnswer}
use Rattle.jr_thin.specs.Reading.{sites_in}
use Rattle.jr_thin.specs.Renaming.{Serves, Changes, KeepsTarget, KeepsTargets, IsFirstLost, IsBroken, IsDone, occurrence, declaration_id}
use Rattle.jr_thin.specs.Scopes.{RefersTo, IsTarget, IsBinding, Redeclares}
use Rattle.jr_thin.specs.Served.{SpansRise}
use Rattle.jr_thin.specs.Sites.{site_at, sites_of}
use Rattle.jr_thin.specs.Text.{Covers, span_at, choices}
use Rattle.jr_thin.specs.Trees.{ThinClass, ReadsThin, kinds_of}
use Rattle.jr_thin.proofs.Files.{length_from, length_kinds}
use Rattle.jr_thin.proofs.ScopeLemmas.{not_plain, not_use, name_inside}
use Rattle.jr_thin.proofs.Spans.{lex_rise}
use Rattle.jr_thin.proofs.Walks.{class_walk}

same_some : {A : Type 0} (x y : A) → Some x ≡ Some y → x ≡ y
same_some x y e = cc

use_plain : Use ≡ Plain → ⊥
use_plain e = cc

plain_refers : (sites : List Site) (i d : ℕ) → (site_at sites i).role ≡ Plain → RefersTo sites i d → ⊥
plain_refers sites i d plain refers = elim refers [ inl self ↦ not_plain _ self.0 plain | inr binds ↦ use_plain (sym binds.is_use ∙ plain) ]

one_reference : (sites : List Site) (i d e : ℕ) → RefersTo sites i d → RefersTo sites i e → d ≡ e
one_reference sites i d e a b =
    elim a [
      | inl self ↦ elim b [ inl other ↦ self.1 ∙ sym other.1 | inr binds ↦ absurd (not_use _ self.0 binds.is_use) ]
      | inr binds ↦ elim b [ inl other ↦ absurd (not_use _ other.0 binds.is_use) | inr others ↦ others.only d binds.visible ]
    ]

one_target : (sites : List Site) (i : ℕ) (o p : Option ℕ) → IsTarget sites i o → IsTarget sites i p → o ≡ p
one_target sites i None None a b = refl
one_target sites i None (Some e) a b = absurd (plain_refers sites i e a b)
one_target sites i (Some d) None a b = absurd (plain_refers sites i d b a)
one_target sites i (Some d) (Some e) a b = ap Some (one_reference sites i d e a b)

one_binding : (sites : List Site) (ts us : List (Option ℕ)) → IsBinding sites ts → IsBinding sites us → ts ≡ us
one_binding sites ts us a b = ext_get_or None ts us (a.size ∙ sym b.size) (λ i less. one_target sites i _ _ (a.each i (inside i less)) (b.each i (inside i less)))
  where
    inside : (i : ℕ) → i < length ts → i < length sites
    inside i less = let size : length ts ≡ length sites = a.size in omega arith

-- tokens that stand one after another do not overlap
behind : (from to : ℕ) (tokens : List Token) (j : ℕ) → SpansRise from to tokens → j < length tokens → from ≤ (span_at tokens j).start
behind from to [] j rise inside = absurd (omega arith)
behind from to (t ∷ ts) zero rise inside = rise.0
behind from to (t ∷ ts) (suc j) rise inside = omega (arith, rise.0, rise.1, behind t.span.end to ts j rise.2 (omega arith))

apart : (from to : ℕ) (tokens : List Token) (i j : ℕ) → SpansRise from to tokens → i < j → j < length tokens → (span_at tokens i).end ≤ (span_at tokens j).start
apart from to [] i j rise order inside = absurd (omega arith)
apart from to (t ∷ ts) i zero rise order inside = absurd (omega arith)
apart from to (t ∷ ts) zero (suc j) rise order inside = behind t.span.end to ts j rise.2 (omega arith)
apart from to (t ∷ ts) (suc i) (suc j) rise order inside = apart t.span.end to ts i j rise.2 (omega arith) (omega arith)

one_covered : (to : ℕ) (tokens : List Token) (sites : List Site) (at i j : ℕ) → length sites ≡ length tokens → SpansRise 0 to tokens → Covers tokens sites at i → Covers tokens sites at j → i ≡ j
one_covered to tokens sites at i j size rise a b =
    let i_in : i < length sites = name_inside sites i a.name in
    let j_in : j < length sites = name_inside sites j b.name in
    let not_before : i < j → ⊥ = λ less. absurd (omega (arith, apart 0 to tokens i j rise less (omega arith), a.end, b.start)) in
    let not_after : j < i → ⊥ = λ less. absurd (omega (arith, apart 0 to tokens j i rise less (omega arith), b.end, a.start)) in
    omega arith

-- a text is read in one way
sites_read : (bytes : List ℕ) (tokens : List Token) (c : ThinClass) → ReadsThin bytes tokens c → sites_in (kinds_of tokens) ≡ Some (sites_of c)
sites_read bytes tokens c a = ap sites_in a.written ∙ class_walk c

one_class : (bytes : List ℕ) (ts us : List Token) (c e : ThinClass) → ReadsThin bytes ts c → ReadsThin bytes us e → (ts ≡ us) × (sites_of c ≡ sites_of e)
one_class bytes ts us c e a b =
    let same : ts ≡ us = lex_one bytes ts us a.lex b.lex in
    (same, same_some (sites_of c) (sites_of e) (sym (sites_read bytes ts c a) ∙ ap (λ l. sites_in (kinds_of l)) same ∙ sites_read bytes us e b))

module _ (old : List ℕ) (at : ℕ) (name : List ℕ) where
  record SameServes (s t : Serves old at name) : Type 0 where
    tokens : s.tokens ≡ t.tokens
    sites : sites_of s.tree ≡ sites_of t.tree
    targets : s.targets ≡ t.targets
    declaration : s.declaration ≡ t.declaration

  one_served : (s t : Serves old at name) → SameServes s t
  one_served s t =
      let read = one_class old s.tokens t.tokens s.tree t.tree s.reads t.reads in
      let targets : s.targets ≡ t.targets = one_binding (sites_of t.tree) s.targets t.targets (subst (λ l. IsBinding l s.targets) read.1 s.binding) t.binding in
      let covers : Covers t.tokens (sites_of t.tree) at s.asked = subst (λ l. Covers l (sites_of t.tree) at s.asked) read.0 (subst (λ l. Covers s.tokens l at s.asked) read.1 s.covers) in
      let size : length (sites_of t.tree) ≡ length t.tokens = length_from Start 0 0 (kinds_of t.tokens) (sites_of t.tree) (sites_read old t.tokens t.tree t.reads) ∙ length_kinds t.tokens in
      let asked : s.asked ≡ t.asked = one_covered (length old) t.tokens (sites_of t.tree) at s.asked t.asked size (lex_rise old t.tokens t.reads.lex) covers t.covers in
      record {
        tokens = read.0;
        sites = read.1;
        targets = targets;
        declaration = same_some s.declaration t.declaration (sym s.declared ∙ ap (λ l. slice_index_or l s.asked None) targets ∙ ap (λ i. slice_index_or t.targets i None) asked ∙ t.declared);
      }

  record SameChanges (new bytes : List ℕ) (c : Changes old at name new) (e : Changes old at name bytes) : Type 0 where
    served : SameServes c.serves e.serves
    text : new ≡ bytes
    tokens : c.tokens ≡ e.tokens
    sites : sites_of c.tree ≡ sites_of e.tree

  one_change : (new bytes : List ℕ) (c : Changes old at name new) (e : Changes old at name bytes) → SameChanges new bytes c e
  one_change new bytes c e =
      let s = c.serves in
      let t = e.serves in
      let served : SameServes s t = one_served s t in
      let text : new ≡ bytes =
      c.change
      ∙ ap (λ d. respelled old 0 (choices d name s.tokens s.targets)) served.declaration
      ∙ ap (λ l. respelled old 0 (choices t.declaration name l s.targets)) served.tokens
      ∙ ap (λ l. respelled old 0 (choices t.declaration name t.tokens l)) served.targets
      ∙ sym e.change in
      let read = one_class bytes c.tokens e.tokens c.tree e.tree (subst (λ l. ReadsThin l c.tokens c.tree) text c.reads) e.reads in
      record { served = served; text = text; tokens = read.0; sites = read.1 }

  keeps : (new bytes : List ℕ) (c : Changes old at name new) (e : Changes old at name bytes) (i : ℕ) → KeepsTarget c i → KeepsTarget e i
  keeps new bytes c e i kept =
      let same : SameChanges new bytes c e = one_change new bytes c e in
      subst (λ l. IsTarget l i (slice_index_or e.serves.targets i None)) same.sites (subst (λ l. IsTarget (sites_of c.tree) i (slice_index_or l i None)) same.served.targets kept)

  lost_or_kept : (i d : ℕ) (new : List ℕ) (e : Changes old at name new) → IsFirstLost old at name i d → KeepsTargets e → ⊥
  lost_or_kept i d new e a kept =
      let same : SameChanges a.new new a.changes e = one_change a.new new a.changes e in
      let size : length a.changes.tokens ≡ length e.tokens = ap length same.tokens in
      let inside : i < length a.changes.tokens = a.inside in
      a.lost (keeps new a.new e a.changes i (kept i (omega arith)))

  one_lost : (i j d e : ℕ) → IsFirstLost old at name i d → IsFirstLost old at name j e → i ≡ j
  one_lost i j d e a b =
      let not_before : i < j → ⊥ = λ less. a.lost (keeps b.new a.new b.changes a.changes i (b.before i less)) in
      let not_after : j < i → ⊥ = λ less. b.lost (keeps a.new b.new a.changes b.changes j (a.before j less)) in
      omega arith

  one_broken : (p q : ℕ) (a : IsBroken old at name p) (b : IsBroken old at name q) → a.declared ≡ b.declared
  one_broken p q a b =
      let same : SameChanges a.new b.new a.changes b.changes = one_change a.new b.new a.changes b.changes in
      let not_before : a.declared < b.declared → ⊥ = λ less. b.first a.earlier a.declared (subst (λ l. Redeclares l a.earlier a.declared) same.sites a.redeclares) less in
      let not_after : b.declared < a.declared → ⊥ = λ less. a.first b.earlier b.declared (subst (λ l. Redeclares l b.earlier b.declared) (sym same.sites) b.redeclares) less in
      omega arith

  broken_or_done : (p : ℕ) (new : List ℕ) → IsBroken old at name p → IsDone old at name new → ⊥
  broken_or_done p new a b =
      let same : SameChanges a.new new a.changes b.changes = one_change a.new new a.changes b.changes in
      b.rule a.earlier a.declared (subst (λ l. Redeclares l a.earlier a.declared) same.sites a.redeclares)

pub one_answer : OneAnswer
one_answer old at name NotServed NotServed a b = tt
one_answer old at name NotServed (NoSpelling occ place lock) a b = absurd (a b.first.changes.serves)
one_answer old at name NotServed (BrokenRule place) a b = absurd (a b.changes.serves)
one_answer old at name NotServed (Renamed new) a b = absurd (a b.changes.serves)
one_answer old at name (NoSpelling occ place lock) NotServed a b = absurd (b a.first.changes.serves)
one_answer old at name (BrokenRule place) NotServed a b = absurd (b a.changes.serves)
one_answer old at name (Renamed new) NotServed a b = absurd (b a.changes.serves)
one_answer old at name (NoSpelling occ place lock) (NoSpelling occ2 place2 lock2) a b =
    let s = a.first.changes.serves in
    let t = b.first.changes.serves in
    let same : SameServes old at name s t = one_served old at name s t in
    let index : a.index ≡ b.index = one_lost old at name a.index b.index a.declaration b.declaration a.first b.first in
    let declaration : a.declaration ≡ b.declaration =
    same_some a.declaration b.declaration (sym a.first.had ∙ ap (λ l. slice_index_or l a.index None) same.targets ∙ ap (λ i. slice_index_or t.targets i None) index ∙ b.first.had) in (
      a.occurs ∙ ap (λ l. occurrence (site_at l a.index).node) same.sites ∙ ap (λ i. occurrence (site_at (sites_of t.tree) i).node) index ∙ sym b.occurs,
      a.starts ∙ ap (λ l. (span_at l a.index).start) same.tokens ∙ ap (λ i. (span_at t.tokens i).start) index ∙ sym b.starts,
      a.locks ∙ ap (λ l. declaration_id (site_at l a.declaration).node) same.sites ∙ ap (λ i. declaration_id (site_at (sites_of t.tree) i).node) declaration ∙ sym b.locks,
    )
one_answer old at name (NoSpelling occ place lock) (BrokenRule place2) a b = absurd (lost_or_kept old at name a.index a.declaration b.new b.changes a.first b.kept)
one_answer old at name (NoSpelling occ place lock) (Renamed new) a b = absurd (lost_or_kept old at name a.index a.declaration new.items b.changes a.first b.kept)
one_answer old at name (BrokenRule place) (NoSpelling occ place2 lock) a b = absurd (lost_or_kept old at name b.index b.declaration a.new a.changes b.first a.kept)
one_answer old at name (Renamed new) (NoSpelling occ place lock) a b = absurd (lost_or_kept old at name b.index b.declaration new.items a.changes b.first a.kept)
one_answer old at name (BrokenRule place) (BrokenRule place2) a b =
    let same : SameChanges old at name a.new b.new a.changes b.changes = one_change old at name a.new b.new a.changes b.changes in
    a.starts ∙ ap (λ l. (span_at l a.declared).start) same.tokens ∙ ap (λ i. (span_at b.changes.tokens i).start) (one_broken old at name place place2 a b) ∙ sym b.starts
one_answer old at name (BrokenRule place) (Renamed new) a b = absurd (broken_or_done old at name place new.items a b)
one_answer old at name (Renamed new) (BrokenRule place) a b = absurd (broken_or_done old at name place new.items b a)
one_answer old at name (Renamed new) (Renamed bytes) a b =
    let same : SameChanges old at name new.items bytes.items a.changes b.changes = one_change old at name new.items bytes.items a.changes b.changes in
    same.text
