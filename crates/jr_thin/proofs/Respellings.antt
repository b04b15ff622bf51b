-- What the tokens of the changed text are.
use Rattle.std.proofs.Common.{◌≡◌, ◌≢◌, ℕ, ◌+◌, ◌-◌, ◌≤◌, Bool, true, false, cond, List, [], ◌∷◌, length, map, suc, zero, Some, None, Option, refl, sym, ap, subst, ◌∙◌, arith, inl, inr, eq-eqb, eqb-true}
use Rattle.std.specs.Prelude.{option_map, option_and_then, slice_index_or, All}
use Rattle.std.proofs.lemmas.Option.{option_and_then_some}
use Rattle.std.proofs.lemmas.List.Elements.{All-nil, All-cons}
use Rattle.std.proofs.lemmas.Bool.{cases_lt}
use Rattle.jr_base.specs.Identifiers.{IsIdentifier}
use Rattle.jr_base.specs.Respelled.{Choice, IsChoice, new_kind, new_width, moved_tokens}
use Rattle.jr_base.specs.declared.kind.Kind.{Kind}
use Rattle.jr_base.specs.declared.kind.Kind.TheVariants as kind
use Rattle.jr_base.specs.declared.token.Token.{Token}
use Rattle.jr_thin.specs.declared.sites.Site.{Site}
use Rattle.jr_thin.specs.declared.sites.Role.{Role}
use Rattle.jr_thin.specs.declared.sites.Role.TheVariants.{Plain, Param, Local, Use}
use Rattle.jr_thin.specs.declared.reading.Terminal.{Terminal}
use Rattle.jr_thin.specs.declared.reading.Terminal.TheVariants as terminal
use Rattle.jr_thin.specs.declared.reading.Phase.{Phase}
use Rattle.jr_thin.specs.declared.reading.Phase.TheVariants as phase
use Rattle.jr_thin.specs.declared.reading.Step.{Step}
use Rattle.jr_thin.specs.Reading.{terminal_of, next, is_end, pluses, count_plus, site_of, nodes_of, method_after, sites_from, sites_in}
use Rattle.jr_thin.specs.Sites.{site_at, plain}
use Rattle.jr_thin.specs.Scopes.{IsTarget, IsBinding}
use Rattle.jr_thin.specs.Text.{choices, is_of}
use Rattle.jr_thin.specs.Trees.{kinds_of}
use Rattle.jr_thin.proofs.Accepts.{IsKind, kind_is}
use Rattle.jr_thin.specs.Clashes.{IsRespelled}
use Rattle.jr_thin.proofs.ScopeLemmas.{not_plain}

none_some : {A : Type 0} (x : A) → None ≡ Some x → ⊥
none_some x e = cc

same_some : {A : Type 0} (x y : A) → Some x ≡ Some y → x ≡ y
same_some x y e = cc

-- a name with another text
abbrev pub respelled_as : Role → List ℕ → Site → Site
respelled_as Plain name s = s
respelled_as role name s = record s { text = name }

abbrev pub respelled_site : ℕ → List ℕ → Site → Option ℕ → Site
respelled_site d name s target = cond (is_of d target) (respelled_as s.role name s) s

abbrev pub respelled_sites : ℕ → List ℕ → List Site → List (Option ℕ) → List Site
respelled_sites d name [] targets = []
respelled_sites d name (s ∷ ss) [] = s ∷ respelled_sites d name ss []
respelled_sites d name (s ∷ ss) (target ∷ targets) = respelled_site d name s target ∷ respelled_sites d name ss targets

pub kinds_moved : (from at : ℕ) (cs : List Choice) → kinds_of (moved_tokens from at cs) ≡ map new_kind cs
kinds_moved from at [] = refl
kinds_moved from at (c ∷ cs) = ap (λ (l : List Kind). new_kind c ∷ l) (kinds_moved c.0.span.end ((at + (c.0.span.start - from)) + new_width c) cs)

pub tokens_chosen : (d : ℕ) (name : List ℕ) (tokens : List Token) (targets : List (Option ℕ)) → map (λ (c : Choice). c.0) (choices d name tokens targets) ≡ tokens
tokens_chosen d name [] targets = refl
tokens_chosen d name (t ∷ ts) [] = ap (λ (l : List Token). t ∷ l) (tokens_chosen d name ts [])
tokens_chosen d name (t ∷ ts) (target ∷ targets) = ap (λ (l : List Token). t ∷ l) (tokens_chosen d name ts targets)

-- the kinds after the change
abbrev new_kinds : ℕ → List ℕ → List Token → List (Option ℕ) → List Kind
new_kinds d name tokens targets = map new_kind (choices d name tokens targets)

-- a chosen token is an identifier
abbrev pub AreIdentifiers : ℕ → List Token → List (Option ℕ) → Type 0
AreIdentifiers d [] targets = Unit {0}
AreIdentifiers d (t ∷ ts) [] = Unit {0}
AreIdentifiers d (t ∷ ts) (target ∷ targets) = (is_of d target ≡ true → (x : List ℕ) × (t.kind ≡ kind.Ident x)) × AreIdentifiers d ts targets

chosen_kind : (b : Bool) (name : List ℕ) (t : Token) → (b ≡ true → (x : List ℕ) × (t.kind ≡ kind.Ident x)) → terminal_of (new_kind (t, cond b (Some name) None)) ≡ terminal_of t.kind
chosen_kind true name t ident = ap terminal_of (sym (ident refl).1)
chosen_kind false name t ident = refl

no_targets : (d : ℕ) (name : List ℕ) (tokens : List Token) → new_kinds d name tokens [] ≡ kinds_of tokens
no_targets d name [] = refl
no_targets d name (t ∷ ts) = ap (λ (l : List Kind). t.kind ∷ l) (no_targets d name ts)

same_pluses : (d : ℕ) (name : List ℕ) (tokens : List Token) (targets : List (Option ℕ)) → AreIdentifiers d tokens targets → pluses (new_kinds d name tokens targets) ≡ pluses (kinds_of tokens)
same_pluses d name [] targets idents = refl
same_pluses d name (t ∷ ts) [] idents = ap pluses (no_targets d name (t ∷ ts))
same_pluses d name (t ∷ ts) (target ∷ targets) idents =
    ap (λ k. count_plus k (pluses (new_kinds d name ts targets))) (chosen_kind (is_of d target) name t idents.0)
    ∙ ap (count_plus (terminal_of t.kind)) (same_pluses d name ts targets idents.1)

ident_site : (role : Role) (method node : ℕ) (x name : List ℕ) → site_of role method node (kind.Ident name) ≡ respelled_as (site_of role method node (kind.Ident x)).role name (site_of role method node (kind.Ident x))
ident_site Plain method node x name = refl
ident_site Param method node x name = refl
ident_site Local method node x name = refl
ident_site Use method node x name = refl

chosen_site : (b : Bool) (name : List ℕ) (t : Token) (role : Role) (method node : ℕ) → (b ≡ true → (x : List ℕ) × (t.kind ≡ kind.Ident x))
    → site_of role method node (new_kind (t, cond b (Some name) None)) ≡ cond b (respelled_as (site_of role method node t.kind).role name (site_of role method node t.kind)) (site_of role method node t.kind)
chosen_site true name t role method node ident =
    let P : Kind → Type 0 = λ k. site_of role method node (kind.Ident name) ≡ respelled_as (site_of role method node k).role name (site_of role method node k) in
    subst P (sym (ident refl).1) (ident_site role method node (ident refl).0 name)
chosen_site false name t role method node ident = refl

no_respelled : (d : ℕ) (name : List ℕ) (ss : List Site) → respelled_sites d name ss [] ≡ ss
no_respelled d name [] = refl
no_respelled d name (s ∷ ss) = ap (λ (l : List Site). s ∷ l) (no_respelled d name ss)

map_same : (f : List Site → List Site) (o : Option (List Site)) → ((l : List Site) → f l ≡ l) → option_map f o ≡ o
map_same f None same = refl
map_same f (Some l) same = ap Some (same l)

map_map : (f g : List Site → List Site) (h k : List Site → List Site) (o : Option (List Site)) → ((l : List Site) → f (g l) ≡ h (k l)) → option_map f (option_map g o) ≡ option_map h (option_map k o)
map_map f g h k None same = refl
map_map f g h k (Some l) same = ap Some (same l)

then_map : (o : Option Step) (f g : Step → Option (List Site)) (h : List Site → List Site) → ((s : Step) → f s ≡ option_map h (g s)) → option_and_then f o ≡ option_map h (option_and_then g o)
then_map None f g h same = refl
then_map (Some s) f g h same = same s

-- the changed tokens are read as the old ones, with the name in its places
pub respelled_from : (p : Phase) (method node d : ℕ) (name : List ℕ) (tokens : List Token) (targets : List (Option ℕ)) → AreIdentifiers d tokens targets
    → sites_from p method node (new_kinds d name tokens targets) ≡ option_map (λ ss. respelled_sites d name ss targets) (sites_from p method node (kinds_of tokens))
respelled_from p method node d name [] targets idents = at_end (is_end p)
  where
    at_end : (b : Bool) → cond b (Some []) None ≡ option_map (λ ss. respelled_sites d name ss targets) (cond b (Some []) None)
    at_end true = refl
    at_end false = refl
respelled_from p method node d name (t ∷ ts) [] idents =
    ap (sites_from p method node) (no_targets d name (t ∷ ts)) ∙ sym (map_same (λ ss. respelled_sites d name ss []) (sites_from p method node (kinds_of (t ∷ ts))) (no_respelled d name))
respelled_from p method node d name (t ∷ ts) (target ∷ targets) idents =
    let new = new_kind (t, cond (is_of d target) (Some name) None) in
    let after : Step → List Kind → Option (List Site) = λ s ks. sites_from s.phase (method_after method s) (node + nodes_of s ks) ks in
    let site : Step → Kind → Site = λ s k. site_of s.role method node k in
    ap (λ k. option_and_then (λ (s : Step). option_map (λ (l : List Site). site s new ∷ l) (sites_from s.phase (method_after method s) (node + nodes_of s (new_kinds d name ts targets)) (new_kinds d name ts targets))) (next p k)) (chosen_kind (is_of d target) name t idents.0)
    ∙ then_map (next p (terminal_of t.kind)) _ _ (λ ss. respelled_sites d name ss (target ∷ targets)) (λ s.
    ap (λ n. option_map (λ (l : List Site). site s new ∷ l) (sites_from s.phase (method_after method s) (node + (s.nodes + cond s.opens_sum n 0)) (new_kinds d name ts targets))) (same_pluses d name ts targets idents.1)
    ∙ ap (option_map (λ (l : List Site). site s new ∷ l)) (respelled_from s.phase (method_after method s) (node + nodes_of s (kinds_of ts)) d name ts targets idents.1)
    ∙ map_map (λ (l : List Site). site s new ∷ l) (λ ss. respelled_sites d name ss targets) (λ ss. respelled_sites d name ss (target ∷ targets)) (λ (l : List Site). site s t.kind ∷ l) (sites_from s.phase (method_after method s) (node + nodes_of s (kinds_of ts)) (kinds_of ts))
    (λ l. ap (λ (h : Site). h ∷ respelled_sites d name l targets) (chosen_site (is_of d target) name t s.role method node idents.0)))

-- only an identifier is a name
abbrev NamesOnly : Option Step → Terminal → Type 0
NamesOnly None t = Unit {0}
NamesOnly (Some s) t = s.role ≢ Plain → t ≡ terminal.Name

names_only : (p : Phase) (t : Terminal) → NamesOnly (next p t) t
unfolding next
names_only phase.ClassName terminal.Name = λ named. refl
names_only phase.MethodName terminal.Name = λ named. refl
names_only phase.ParamName terminal.Name = λ named. refl
names_only phase.LocalName terminal.Name = λ named. refl
names_only phase.Term terminal.Name = λ named. refl
names_only phase.Start terminal.Class = λ named. absurd (named refl)
names_only phase.ClassOpen terminal.OpenBrace = λ named. absurd (named refl)
names_only phase.Member terminal.Static = λ named. absurd (named refl)
names_only phase.Member terminal.CloseBrace = λ named. absurd (named refl)
names_only phase.MemberInt terminal.Int = λ named. absurd (named refl)
names_only phase.ParamsOpen terminal.OpenParen = λ named. absurd (named refl)
names_only phase.FirstParam terminal.Int = λ named. absurd (named refl)
names_only phase.FirstParam terminal.CloseParen = λ named. absurd (named refl)
names_only phase.AfterParam terminal.Comma = λ named. absurd (named refl)
names_only phase.AfterParam terminal.CloseParen = λ named. absurd (named refl)
names_only phase.NextParam terminal.Int = λ named. absurd (named refl)
names_only phase.BodyOpen terminal.OpenBrace = λ named. absurd (named refl)
names_only phase.Statement terminal.Int = λ named. absurd (named refl)
names_only phase.Statement terminal.Return = λ named. absurd (named refl)
names_only phase.Statement terminal.CloseBrace = λ named. absurd (named refl)
names_only phase.LocalAssign terminal.Assign = λ named. absurd (named refl)
names_only phase.Term terminal.Literal = λ named. absurd (named refl)
names_only phase.AfterTerm terminal.Plus = λ named. absurd (named refl)
names_only phase.AfterTerm terminal.Semicolon = λ named. absurd (named refl)
names_only p t = tt

role_of_site : (role : Role) (method node : ℕ) (k : Kind) → (site_of role method node k).role ≡ role
role_of_site Plain method node k = refl
role_of_site Param method node k = refl
role_of_site Local method node k = refl
role_of_site Use method node k = refl

mapped : (s : Site) (o : Option (List Site)) (sites : List Site) → option_map (λ l. s ∷ l) o ≡ Some sites → (rest : List Site) × (o ≡ Some rest) × (s ∷ rest ≡ sites)
mapped s None sites is = absurd (none_some sites is)
mapped s (Some rest) sites is = (rest, refl, same_some (s ∷ rest) sites is)

-- a name is an identifier
ident_named : (t : Terminal) (k : Kind) → t ≡ terminal.Name → IsKind t k → (x : List ℕ) × (k ≡ kind.Ident x)
ident_named t k same is = subst (λ u. IsKind u k) same is

-- a token that refers to the declaration is a name
abbrev AreNames : ℕ → List Site → List (Option ℕ) → Type 0
AreNames d ss targets = (i : ℕ) → is_of d (slice_index_or targets i None) ≡ true → (site_at ss i).role ≢ Plain

identifiers_from : (p : Phase) (method node d : ℕ) (tokens : List Token) (targets : List (Option ℕ)) (ss : List Site) → sites_from p method node (kinds_of tokens) ≡ Some ss → AreNames d ss targets → AreIdentifiers d tokens targets
identifiers_from p method node d [] targets ss is names = tt
identifiers_from p method node d (t ∷ ts) [] ss is names = tt
identifiers_from p method node d (t ∷ ts) (target ∷ targets) ss is names =
    option_and_then_some (λ (s : Step). option_map (λ (l : List Site). site_of s.role method node t.kind ∷ l) (sites_from s.phase (method_after method s) (node + nodes_of s (kinds_of ts)) (kinds_of ts))) (next p (terminal_of t.kind)) ss is (λ s found rest.
    let more = mapped (site_of s.role method node t.kind) (sites_from s.phase (method_after method s) (node + nodes_of s (kinds_of ts)) (kinds_of ts)) ss rest in
    let here : AreNames d (site_of s.role method node t.kind ∷ more.0) (target ∷ targets) = subst (λ l. AreNames d l (target ∷ targets)) (sym more.2) names in
    let only : NamesOnly (Some s) (terminal_of t.kind) = subst (λ o. NamesOnly o (terminal_of t.kind)) found (names_only p (terminal_of t.kind)) in (
      λ chosen. ident_named (terminal_of t.kind) t.kind (only (λ plain. here 0 chosen (role_of_site s.role method node t.kind ∙ plain))) (kind_is t.kind),
      identifiers_from s.phase (method_after method s) (node + nodes_of s (kinds_of ts)) d ts targets more.0 more.1 (λ i. here (suc i)),
    ))

pub is_of_some : (d : ℕ) (o : Option ℕ) → is_of d o ≡ true → o ≡ Some d
is_of_some d None is = absurd (clash is)
  where
    clash : false ≡ true → ⊥
    clash e = cc
is_of_some d (Some t) is = ap Some (eqb-true t d is)

pub some_is_of : (d : ℕ) (o : Option ℕ) → o ≡ Some d → is_of d o ≡ true
some_is_of d o same = ap (is_of d) same ∙ eq-eqb d d refl

pub other_is_of : (d : ℕ) (o : Option ℕ) → o ≢ Some d → is_of d o ≡ false
other_is_of d o apart = either (is_of d o) refl
  where
    either : (b : Bool) → is_of d o ≡ b → is_of d o ≡ false
    either true is = absurd (apart (is_of_some d o is))
    either false is = is

pub past : (targets : List (Option ℕ)) (i : ℕ) → length targets ≤ i → slice_index_or targets i None ≡ None
past [] i order = refl
past (t ∷ ts) zero order = absurd (omega arith)
past (t ∷ ts) (suc i) order = past ts i (omega arith)

use_plain : Use ≡ Plain → ⊥
use_plain e = cc

pub names_bound : (ss : List Site) (targets : List (Option ℕ)) (d i : ℕ) → IsBinding ss targets → slice_index_or targets i None ≡ Some d → (site_at ss i).role ≢ Plain
names_bound ss targets d i binding is =
    elim (cases_lt i (length ss)) [
      | inl inside ↦
          let refers : IsTarget ss i (Some d) = subst (IsTarget ss i) is (binding.each i inside) in
          elim refers [ inl self ↦ not_plain _ self.0 | inr binds ↦ λ plain. use_plain (sym binds.is_use ∙ plain) ]
      | inr outside ↦ absurd (none_some d (sym (past targets i (outside_of outside)) ∙ is))
    ]
  where
    outside_of : length ss ≤ i → length targets ≤ i
    outside_of order = let size : length targets ≡ length ss = binding.size in omega arith

are_names : (ss : List Site) (targets : List (Option ℕ)) (d : ℕ) → IsBinding ss targets → AreNames d ss targets
are_names ss targets d binding i is = names_bound ss targets d i binding (is_of_some d (slice_index_or targets i None) is)

-- what a rename makes of the tokens: only identifiers are spelled anew, by the identifier
chosen_well : (d : ℕ) (name : List ℕ) (tokens : List Token) (targets : List (Option ℕ)) → IsIdentifier name → AreIdentifiers d tokens targets → All IsChoice (choices d name tokens targets)
chosen_well d name [] targets identifier idents = All-nil IsChoice
chosen_well d name (t ∷ ts) [] identifier idents = All-cons IsChoice (t, None) (choices d name ts []) tt (chosen_well d name ts [] identifier (none_chosen ts))
  where
    none_chosen : (ts : List Token) → AreIdentifiers d ts []
    none_chosen [] = tt
    none_chosen (t ∷ ts) = tt
chosen_well d name (t ∷ ts) (target ∷ targets) identifier idents =
    All-cons IsChoice (t, cond (is_of d target) (Some name) None) (choices d name ts targets) (one (is_of d target) idents.0) (chosen_well d name ts targets identifier idents.1)
  where
    one : (b : Bool) → (b ≡ true → (x : List ℕ) × (t.kind ≡ kind.Ident x)) → IsChoice (t, cond b (Some name) None)
    one true ident = (ident refl, identifier)
    one false ident = tt

as_role : (r : Role) (name : List ℕ) (s : Site) → (respelled_as r name s).role ≡ s.role
as_role Plain name s = refl
as_role Param name s = refl
as_role Local name s = refl
as_role Use name s = refl

as_method : (r : Role) (name : List ℕ) (s : Site) → (respelled_as r name s).method ≡ s.method
as_method Plain name s = refl
as_method Param name s = refl
as_method Local name s = refl
as_method Use name s = refl

as_node : (r : Role) (name : List ℕ) (s : Site) → (respelled_as r name s).node ≡ s.node
as_node Plain name s = refl
as_node Param name s = refl
as_node Local name s = refl
as_node Use name s = refl

as_text : (r : Role) (name : List ℕ) (s : Site) → r ≢ Plain → (respelled_as r name s).text ≡ name
as_text Plain name s named = absurd (named refl)
as_text Param name s named = refl
as_text Local name s named = refl
as_text Use name s named = refl

site_respelled : (d : ℕ) (name : List ℕ) (ss : List Site) (targets : List (Option ℕ)) (i : ℕ) → site_at (respelled_sites d name ss targets) i ≡ respelled_site d name (site_at ss i) (slice_index_or targets i None)
site_respelled d name [] targets i = sym (plain_same (is_of d (slice_index_or targets i None)))
  where
    plain_same : (b : Bool) → cond b plain plain ≡ plain
    plain_same true = refl
    plain_same false = refl
site_respelled d name (s ∷ ss) [] i = ap (λ l. site_at l i) (no_respelled d name (s ∷ ss))
site_respelled d name (s ∷ ss) (target ∷ targets) zero = refl
site_respelled d name (s ∷ ss) (target ∷ targets) (suc i) = site_respelled d name ss targets i

pub respelled_is : (d : ℕ) (name : List ℕ) (ss : List Site) (targets : List (Option ℕ)) → IsBinding ss targets → IsRespelled ss (respelled_sites d name ss targets) targets d name
respelled_is d name ss targets binding =
    record {
      role = λ i. ap (λ s. s.role) (site_respelled d name ss targets i) ∙ either (λ s. s.role ≡ (site_at ss i).role) i (as_role _ name (site_at ss i)) refl;
      method = λ i. ap (λ s. s.method) (site_respelled d name ss targets i) ∙ either (λ s. s.method ≡ (site_at ss i).method) i (as_method _ name (site_at ss i)) refl;
      node = λ i. ap (λ s. s.node) (site_respelled d name ss targets i) ∙ either (λ s. s.node ≡ (site_at ss i).node) i (as_node _ name (site_at ss i)) refl;
      chosen = λ i is. ap (λ s. s.text) (site_respelled d name ss targets i)
          ∙ ap (λ b. (cond b (respelled_as (site_at ss i).role name (site_at ss i)) (site_at ss i)).text) (some_is_of d (slice_index_or targets i None) is)
          ∙ as_text _ name (site_at ss i) (names_bound ss targets d i binding is);
      kept = λ i apart. ap (λ s. s.text) (site_respelled d name ss targets i)
          ∙ ap (λ b. (cond b (respelled_as (site_at ss i).role name (site_at ss i)) (site_at ss i)).text) (other_is_of d (slice_index_or targets i None) apart);
    }
  where
    either : (P : Site → Type 0) (i : ℕ) → P (respelled_as (site_at ss i).role name (site_at ss i)) → P (site_at ss i) → P (respelled_site d name (site_at ss i) (slice_index_or targets i None))
    either P i chosen kept = elim (is_of d (slice_index_or targets i None)) as (λ b. P (cond b (respelled_as (site_at ss i).role name (site_at ss i)) (site_at ss i))) [ true ↦ chosen | false ↦ kept ]

pub record Respelling (d : ℕ) (name : List ℕ) (tokens : List Token) (ss : List Site) (targets : List (Option ℕ)) : Type 0 where
  pub chosen : All IsChoice (choices d name tokens targets)
  pub read : sites_in (kinds_of (moved_tokens 0 0 (choices d name tokens targets))) ≡ Some (respelled_sites d name ss targets)

pub respelling : (d : ℕ) (name : List ℕ) (tokens : List Token) (ss : List Site) (targets : List (Option ℕ)) → IsIdentifier name → sites_in (kinds_of tokens) ≡ Some ss → IsBinding ss targets → Respelling d name tokens ss targets
respelling d name tokens ss targets identifier is binding =
    let idents = identifiers_from phase.Start 0 0 d tokens targets ss is (are_names ss targets d binding) in
    record {
      chosen = chosen_well d name tokens targets identifier idents;
      read = ap sites_in (kinds_moved 0 0 (choices d name tokens targets)) ∙ respelled_from phase.Start 0 0 d name tokens targets idents ∙ ap (option_map (λ ss. respelled_sites d name ss targets)) is;
    }
