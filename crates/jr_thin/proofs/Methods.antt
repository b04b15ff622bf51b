-- The methods of a class come one after another.
use Rattle.std.proofs.Common.{◌≡◌, ◌≢◌, ℕ, ◌+◌, ◌≤◌, Bool, true, false, cond, List, [], ◌∷◌, suc, zero, Some, None, Option, refl, subst, arith}
use Rattle.std.specs.Prelude.{option_map}
use Rattle.std.proofs.lemmas.Option.{option_and_then_some}
use Rattle.jr_base.specs.declared.kind.Kind.{Kind}
use Rattle.jr_thin.specs.declared.sites.Site.{Site}
use Rattle.jr_thin.specs.declared.sites.Role.{Role}
use Rattle.jr_thin.specs.declared.sites.Role.TheVariants.{Plain, Param, Local, Use}
use Rattle.jr_thin.specs.declared.reading.Phase.{Phase}
use Rattle.jr_thin.specs.declared.reading.Phase.TheVariants.{Start}
use Rattle.jr_thin.specs.declared.reading.Step.{Step}
use Rattle.jr_thin.specs.Reading.{terminal_of, next, is_end, site_of, nodes_of, method_after, sites_from, sites_in}
use Rattle.jr_thin.specs.Sites.{site_at}
use Rattle.jr_thin.specs.Binding.{MethodsRise}

-- the names here are of this method or later ones
Rises : ℕ → List Site → Type 0
Rises method [] = Unit {0}
Rises method (s ∷ ss) = (after : ℕ) × (method ≤ after) × (s.role ≢ Plain → s.method ≡ method) × Rises after ss

none_some : {A : Type 0} (x : A) → None ≡ Some x → ⊥
none_some x e = cc

same_some : {A : Type 0} (x y : A) → Some x ≡ Some y → x ≡ y
same_some x y e = cc

method_grows : (method : ℕ) (ends : Bool) → method ≤ cond ends (method + 1) method
method_grows method true = omega arith
method_grows method false = omega arith

own_method : (role : Role) (method node : ℕ) (k : Kind) → (site_of role method node k).role ≢ Plain → (site_of role method node k).method ≡ method
own_method Plain method node k named = absurd (named refl)
own_method Param method node k named = refl
own_method Local method node k named = refl
own_method Use method node k named = refl

mapped : (s : Site) (o : Option (List Site)) (sites : List Site) → option_map (λ l. s ∷ l) o ≡ Some sites → (rest : List Site) × (o ≡ Some rest) × (s ∷ rest ≡ sites)
mapped s None sites is = absurd (none_some sites is)
mapped s (Some rest) sites is = (rest, refl, same_some (s ∷ rest) sites is)

rises_from : (phase : Phase) (method node : ℕ) (ks : List Kind) (sites : List Site) → sites_from phase method node ks ≡ Some sites → Rises method sites
unfolding Rises
rises_from phase method node [] sites is = at_end (is_end phase) is
  where
    at_end : (b : Bool) → cond b (Some []) None ≡ Some sites → Rises method sites
    at_end true is = subst (Rises method) (same_some [] sites is) tt
    at_end false is = absurd (none_some sites is)
rises_from phase method node (k ∷ ks) sites is =
    option_and_then_some (λ (s : Step). option_map (λ (l : List Site). site_of s.role method node k ∷ l) (sites_from s.phase (method_after method s) (node + nodes_of s ks) ks)) (next phase (terminal_of k)) sites is (λ s found rest.
    let more = mapped (site_of s.role method node k) (sites_from s.phase (method_after method s) (node + nodes_of s ks) ks) sites rest in
    subst (Rises method) more.2
    (method_after method s, method_grows method s.ends_method, own_method s.role method node k, rises_from s.phase (method_after method s) (node + nodes_of s ks) ks more.0 more.1))

low : (method : ℕ) (sites : List Site) (k : ℕ) → Rises method sites → (site_at sites k).role ≢ Plain → method ≤ (site_at sites k).method
unfolding Rises
low method [] k rises named = absurd (named refl)
low method (s ∷ ss) zero rises named = let same : s.method ≡ method = rises.2 named in omega arith
low method (s ∷ ss) (suc k) rises named = let grows : method ≤ rises.0 = rises.1 in let more : rises.0 ≤ (site_at ss k).method = low rises.0 ss k rises.3 named in omega arith

pairs : (method : ℕ) (sites : List Site) (j k : ℕ) → Rises method sites → j ≤ k → (site_at sites j).role ≢ Plain → (site_at sites k).role ≢ Plain → (site_at sites j).method ≤ (site_at sites k).method
unfolding Rises
pairs method [] j k rises order named other = absurd (named refl)
pairs method (s ∷ ss) zero k rises order named other = let same : s.method ≡ method = rises.2 named in let more : method ≤ (site_at (s ∷ ss) k).method = low method (s ∷ ss) k rises other in omega arith
pairs method (s ∷ ss) (suc j) zero rises order named other = absurd (omega arith)
pairs method (s ∷ ss) (suc j) (suc k) rises order named other = pairs rises.0 ss j k rises.3 (omega arith) named other

pub methods_rise : (ks : List Kind) (sites : List Site) → sites_in ks ≡ Some sites → MethodsRise sites
methods_rise ks sites is j k order inside named other = pairs 0 sites j k (rises_from Start 0 0 ks sites is) order named other
