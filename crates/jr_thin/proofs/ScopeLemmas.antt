-- Scopes, declarations of one name, and the names that bind to them.
use Rattle.std.proofs.Common.{◌≡◌, ◌≢◌, ◌⊎◌, inl, inr, ℕ, ◌+◌, ◌<◌, ◌≤◌, List, [], ◌∷◌, length, suc, zero, Some, None, Option, refl, sym, subst, ◌∙◌, arith}
use Rattle.std.specs.Prelude.{slice_index_or}
use Rattle.jr_thin.specs.declared.sites.Site.{Site}
use Rattle.jr_thin.specs.declared.sites.Role.{Role}
use Rattle.jr_thin.specs.declared.sites.Role.TheVariants.{Plain, Param, Local, Use}
use Rattle.jr_thin.specs.Sites.{site_at}
use Rattle.jr_thin.specs.Scopes.{is_declaration, InScope, IsCandidate, Binds, IsTarget, IsLaterParam, Redeclares, KeepsRule}
use Rattle.jr_thin.specs.Binding.{KeepsRuleBelow, IsStuck, IsUnbound, IsEarlier, IsFoundHere, IsLast, MethodsRise}

-- two declarations of one name in one method, the first before the second
pub record Twins (sites : List Site) (e d : ℕ) : Type 0 where
  pub first : is_declaration (site_at sites e).role
  pub second : is_declaration (site_at sites d).role
  pub method : (site_at sites e).method ≡ (site_at sites d).method
  pub spelling : (site_at sites e).text ≡ (site_at sites d).text
  pub order : e < d

pub declares_how : (r : Role) → is_declaration r → (r ≡ Param) ⊎ (r ≡ Local)
declares_how Param h = inl refl
declares_how Local h = inr refl
declares_how Plain h = absurd h
declares_how Use h = absurd h

pub not_plain : (r : Role) → is_declaration r → r ≢ Plain
not_plain r h is = subst is_declaration is h

pub not_use : (r : Role) → is_declaration r → r ≢ Use
not_use r h is = subst is_declaration is h

local_param : Local ≡ Param → ⊥
local_param e = cc

use_param : Use ≡ Param → ⊥
use_param e = cc

use_plain : Use ≡ Plain → ⊥
use_plain e = cc

pub redeclares : (sites : List Site) (e d : ℕ) → Twins sites e d → Redeclares sites e d
redeclares sites e d t = record { declared = t.second; spelling = t.spelling; scope = how }
  where
    inner : ((site_at sites e).role ≡ Param → (site_at sites d).role ≢ Param) → InScope sites e d
    inner body = record { declared = t.first; name = not_plain _ t.second; method = t.method; after = t.order; body = body }

    how : InScope sites e d ⊎ IsLaterParam sites e d
    how =
        elim (declares_how (site_at sites e).role t.first) [
          | inr is ↦ inl (inner (λ p. absurd (local_param (sym is ∙ p))))
          | inl is ↦ elim (declares_how (site_at sites d).role t.second) [
            | inr other ↦ inl (inner (λ p q. local_param (sym other ∙ q)))
            | inl other ↦ inr (record { first = is; second = other; method = t.method; after = t.order })
          ]
        ]

pub twins : (sites : List Site) (e d : ℕ) → Redeclares sites e d → Twins sites e d
twins sites e d r =
    elim r.scope [
      | inl s ↦ record { first = s.declared; second = r.declared; method = s.method; spelling = r.spelling; order = s.after }
      | inr l ↦ record { first = subst is_declaration (sym l.first) tt; second = r.declared; method = l.method; spelling = r.spelling; order = l.after }
    ]

pub declared_inside : (sites : List Site) (d : ℕ) → is_declaration (site_at sites d).role → d < length sites
declared_inside [] d h = absurd h
declared_inside (s ∷ ss) zero h = omega arith
declared_inside (s ∷ ss) (suc d) h = let less : d < length ss = declared_inside ss d h in omega arith

pub name_inside : (sites : List Site) (i : ℕ) → (site_at sites i).role ≢ Plain → i < length sites
name_inside [] i h = absurd (h refl)
name_inside (s ∷ ss) zero h = omega arith
name_inside (s ∷ ss) (suc i) h = let less : i < length ss = name_inside ss i h in omega arith

-- a name is declared once in a method
pub one_declaration : (sites : List Site) (end e d : ℕ) → KeepsRuleBelow sites end → e < end → d < end → is_declaration (site_at sites e).role → is_declaration (site_at sites d).role
    → (site_at sites e).method ≡ (site_at sites d).method → (site_at sites e).text ≡ (site_at sites d).text → e ≡ d
one_declaration sites end e d rule e_in d_in e_is d_is method spelling =
    let not_before : e < d → ⊥ = λ lt. rule e d d_in (redeclares sites e d (record { first = e_is; second = d_is; method = method; spelling = spelling; order = lt })) in
    let not_after : d < e → ⊥ = λ lt. rule d e e_in (redeclares sites d e (record { first = d_is; second = e_is; method = sym method; spelling = sym spelling; order = lt })) in
    omega arith

pub rule_below : (sites : List Site) (end : ℕ) → KeepsRule sites → KeepsRuleBelow sites end
rule_below sites end rule = λ e d inside r. rule e d r

pub rule_whole : (sites : List Site) → KeepsRuleBelow sites (length sites) → KeepsRule sites
rule_whole sites rule = λ e d r. rule e d (declared_inside sites d r.declared) r

pub rule_more : (sites : List Site) (i : ℕ) → KeepsRuleBelow sites i → ((e : ℕ) → Redeclares sites e i → ⊥) → KeepsRuleBelow sites (i + 1)
rule_more sites i rule here = λ e d inside r.
    let not_here : d ≡ i → ⊥ = λ same. here e (subst (λ n. Redeclares sites e n) same r) in
    rule e d (omega arith) r

pub candidate : (sites : List Site) (i d : ℕ) → (site_at sites i).role ≡ Use → is_declaration (site_at sites d).role → (site_at sites d).method ≡ (site_at sites i).method → (site_at sites d).text ≡ (site_at sites i).text → d < i → IsCandidate sites i d
candidate sites i d is declared method spelling before =
    record {
      scope = record { declared = declared; name = λ p. use_plain (sym is ∙ p); method = method; after = before; body = λ p q. use_param (sym is ∙ q) };
      spelling = spelling;
    }

-- a use binds to its only candidate
pub binds_only : (sites : List Site) (i d : ℕ) → (site_at sites i).role ≡ Use → IsCandidate sites i d → ((e : ℕ) → IsCandidate sites i e → e ≡ d) → Binds sites i d
binds_only sites i d is here only =
    record {
      is_use = is;
      visible = record { candidate = here; not_shadowed = λ e other inner. let same : e ≡ d = only e other in let less : d < e = inner.after in absurd (omega arith) };
      only = λ e seen. only e seen.candidate;
    }

pub stuck_use : (sites : List Site) (i : ℕ) → (site_at sites i).role ≡ Use → ((d : ℕ) → IsCandidate sites i d → ⊥) → IsStuck sites i
stuck_use sites i is none None plain rule = use_plain (sym is ∙ plain)
stuck_use sites i is none (Some d) refers rule =
    elim refers [
      | inl declares ↦ subst is_declaration is declares.0
      | inr binds ↦ none d binds.visible.candidate
    ]

pub unbound_at : (sites : List Site) (i : ℕ) → i < length sites → IsStuck sites i → IsUnbound sites
unbound_at sites i inside stuck = λ targets binding rule. stuck (slice_index_or targets i None) (binding.each i inside) rule

-- the last declaration of a spelling is the one of the method, where there is one
pub found_last : (sites : List Site) (i d : ℕ) → IsLast sites (site_at sites i).text i (Some d) → (site_at sites d).method ≡ (site_at sites i).method → IsFoundHere sites i (Some d)
found_last sites i d last method = record { earlier = last.0; method = method }

pub found_other : (sites : List Site) (i d : ℕ) → MethodsRise sites → i < length sites → IsLast sites (site_at sites i).text i (Some d) → (site_at sites d).method ≢ (site_at sites i).method → IsFoundHere sites i None
found_other sites i d rises inside last other name e here =
    let below : e ≤ d = last.1 e here.earlier in
    let less : d < i = last.0.before in
    let inside_d : d < length sites = omega arith in
    let low : (site_at sites e).method ≤ (site_at sites d).method = rises e d below inside_d (not_plain _ here.earlier.declared) (not_plain _ last.0.declared) in
    let high : (site_at sites d).method ≤ (site_at sites i).method = rises d i (omega arith) inside (not_plain _ last.0.declared) name in
    let same : (site_at sites e).method ≡ (site_at sites i).method = here.method in
    other (omega arith)

pub found_none : (sites : List Site) (i : ℕ) → IsLast sites (site_at sites i).text i None → IsFoundHere sites i None
found_none sites i last name e here = last e here.earlier

-- a use
pub use_found : (sites : List Site) (i d : ℕ) → KeepsRuleBelow sites i → (site_at sites i).role ≡ Use → IsFoundHere sites i (Some d) → IsTarget sites i (Some d)
use_found sites i d rule is here =
    inr (binds_only sites i d is (candidate sites i d is here.earlier.declared here.method here.earlier.spelling here.earlier.before)
    (λ e other. one_declaration sites i e d rule other.scope.after here.earlier.before other.scope.declared here.earlier.declared (other.scope.method ∙ sym here.method) (other.spelling ∙ sym here.earlier.spelling)))

pub use_lost : (sites : List Site) (i : ℕ) → (site_at sites i).role ≡ Use → IsFoundHere sites i None → IsStuck sites i
use_lost sites i is none =
    stuck_use sites i is (λ d other. none (λ p. use_plain (sym is ∙ p)) d (record { earlier = record { declared = other.scope.declared; spelling = other.spelling; before = other.scope.after }; method = other.scope.method }))

-- a declaration
pub declared_twice : (sites : List Site) (i d : ℕ) → is_declaration (site_at sites i).role → IsFoundHere sites i (Some d) → IsStuck sites i
declared_twice sites i d declared here = λ target refers rule.
    rule d i (redeclares sites d i (record { first = here.earlier.declared; second = declared; method = here.method; spelling = here.earlier.spelling; order = here.earlier.before }))

pub declared_once : (sites : List Site) (i : ℕ) → KeepsRuleBelow sites i → is_declaration (site_at sites i).role → IsFoundHere sites i None → KeepsRuleBelow sites (i + 1)
declared_once sites i rule declared none =
    rule_more sites i rule (λ e r.
    let t = twins sites e i r in
    none (not_plain _ declared) e (record { earlier = record { declared = t.first; spelling = t.spelling; before = t.order }; method = t.method }))

pub not_declared : (sites : List Site) (i : ℕ) → KeepsRuleBelow sites i → (is_declaration (site_at sites i).role → ⊥) → KeepsRuleBelow sites (i + 1)
not_declared sites i rule none = rule_more sites i rule (λ e r. none r.declared)

-- the last declaration one token on
pub last_declared : (sites : List Site) (i : ℕ) → is_declaration (site_at sites i).role → IsLast sites (site_at sites i).text (i + 1) (Some i)
last_declared sites i declared =
    (record { declared = declared; spelling = refl; before = omega arith }, λ e earlier. let less : e < i + 1 = earlier.before in omega arith)

earlier_less : (sites : List Site) (text : List ℕ) (i e : ℕ) → IsEarlier sites text (i + 1) e → e ≢ i → IsEarlier sites text i e
earlier_less sites text i e earlier apart =
    let less : e < i + 1 = earlier.before in
    record { declared = earlier.declared; spelling = earlier.spelling; before = omega arith }

earlier_more : (sites : List Site) (text : List ℕ) (i e : ℕ) → IsEarlier sites text i e → IsEarlier sites text (i + 1) e
earlier_more sites text i e earlier =
    let less : e < i = earlier.before in
    record { declared = earlier.declared; spelling = earlier.spelling; before = omega arith }

pub last_kept : (sites : List Site) (text : List ℕ) (i : ℕ) (last : Option ℕ) → (IsEarlier sites text (i + 1) i → ⊥) → IsLast sites text i last → IsLast sites text (i + 1) last
last_kept sites text i None apart is = λ e earlier. is e (earlier_less sites text i e earlier (λ same. apart (subst (λ n. IsEarlier sites text (i + 1) n) same earlier)))
last_kept sites text i (Some d) apart is =
    (earlier_more sites text i d is.0, λ e earlier. is.1 e (earlier_less sites text i e earlier (λ same. apart (subst (λ n. IsEarlier sites text (i + 1) n) same earlier))))
