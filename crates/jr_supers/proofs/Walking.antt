-- Loops that go up by links.
use Rattle.std.proofs.Common.{◌≡◌, sym, ◌∙◌, ap, ap₂, ℕ, zero, suc, Bool, true, false, cond, ◌||◌, List, ◌++◌, append_assoc, append-nil, flat_map, Option, Some, None}
use Rattle.std.specs.List.{list_any}
use Rattle.jr_places.specs.declared.chains.Entry.{Entry}
use Rattle.jr_supers.specs.declared.above.Link.{Link}
use Rattle.jr_plain.specs.Search.{has}
use Rattle.jr_supers.specs.Pairs.{has_pair}
use Rattle.jr_supers.specs.Found.{with_items}
use Rattle.jr_supers.specs.Above.{up_at, branching_above, walk, with_uppers, climbed, with_above, open_up, at_or_above, step_up, go_up, climb, at_depth, is_branched, ClimbsTo, BranchesTo, AddsTo, ListsTo}

pub climb_more : {links : List (Option Link)} {c depth m here : ℕ} (j over : ℕ) → ClimbsTo links c depth m here → Some over ≡ step_up links depth here → suc j ≡ m → ClimbsTo links c depth j over
climb_more {links = links} {c = c} {depth = depth} {m = m} {here = here} j over before h room = record {
  rest = ap (go_up (climb links depth j) here) h ∙ ap (λ n. climb links depth n here) room ∙ before.rest;
}

pub climb_stop : {links : List (Option Link)} {c depth m here : ℕ} → ClimbsTo links c depth m here → None ≡ step_up links depth here → here ≡ at_depth links c depth
climb_stop {m = zero} before h = before.rest
climb_stop {links = links} {depth = depth} {m = suc m} {here = here} before h = ap (go_up (climb links depth m) here) h ∙ before.rest

pub climb_last : {links : List (Option Link)} {c depth m here : ℕ} → ClimbsTo links c depth m here → m ≡ 0 → here ≡ at_depth links c depth
climb_last {links = links} {depth = depth} {here = here} before room = ap (λ n. climb links depth n here) (sym room) ∙ before.rest

abbrev rest_of : List (Option Link) → List Entry → ℕ → ℕ → Option ℕ → Bool
rest_of links pairs over room here = list_any (λ n. has_pair pairs n over) (walk (branching_above links) room here)

module _ {links : List (Option Link)} {pairs : List Entry} {low : Link} {over m : ℕ} where
  pub branched_more : {at : Option ℕ} (j here : ℕ) (next : Option ℕ) → BranchesTo links pairs low over m at → at ≡ Some here → suc j ≡ m → false ≡ has_pair pairs here over
      → next ≡ branching_above links here → BranchesTo links pairs low over j next
  branched_more {at = at} j here next before is room out h = record {
    rest = ap (rest_of links pairs over j) h ∙ ap (λ b. b || rest_of links pairs over j (branching_above links here)) out ∙ ap₂ (λ m at. rest_of links pairs over m at) room (sym is) ∙ before.rest;
  }

  pub branched_found : {at : Option ℕ} (j here : ℕ) → BranchesTo links pairs low over m at → at ≡ Some here → suc j ≡ m → true ≡ has_pair pairs here over → true ≡ is_branched links pairs low over
  branched_found {at = at} j here before is room found = ap (λ b. b || rest_of links pairs over j (branching_above links here)) found ∙ ap₂ (λ m at. rest_of links pairs over m at) room (sym is) ∙ before.rest

pub branched_none : {links : List (Option Link)} {pairs : List Entry} {low : Link} {over m : ℕ} {at : Option ℕ} → BranchesTo links pairs low over m at → at ≡ None → false ≡ is_branched links pairs low over
branched_none {links = links} {pairs = pairs} {over = over} {m = zero} before is = before.rest
branched_none {links = links} {pairs = pairs} {over = over} {m = suc m} before is = ap (λ at. list_any (λ n. has_pair pairs n over) (walk (branching_above links) (suc m) at)) (sym is) ∙ before.rest

pub branched_last : {links : List (Option Link)} {pairs : List Entry} {low : Link} {over m : ℕ} {at : Option ℕ} → BranchesTo links pairs low over m at → m ≡ 0 → false ≡ is_branched links pairs low over
branched_last {links = links} {pairs = pairs} {over = over} {at = at} before room = ap (λ m. list_any (λ n. has_pair pairs n over) (walk (branching_above links) m at)) (sym room) ∙ before.rest

abbrev climbed_by : List (Option Link) → List Entry → ℕ → ℕ → List ℕ → Bool → List ℕ
climbed_by links pairs j here done b = cond b done (climbed links pairs j (up_at links here) (with_items done (with_uppers pairs here)))

module _ {links : List (Option Link)} {pairs : List Entry} {c m : ℕ} {before done : List ℕ} where
  pub added_more : {at : Option ℕ} (j here : ℕ) (next : Option ℕ) (more : List ℕ) → AddsTo links pairs c before m at done → at ≡ Some here → suc j ≡ m → false ≡ has done here
      → more ≡ with_items done (with_uppers pairs here) → next ≡ up_at links here → AddsTo links pairs c before j next more
  added_more {at = at} j here next more h is room out pushed up = record {
    rest = ap₂ (λ xs at. climbed links pairs j at xs) pushed up ∙ ap (climbed_by links pairs j here done) out ∙ ap₂ (λ m at. climbed links pairs m at done) room (sym is) ∙ h.rest;
  }

  pub added_there : {at : Option ℕ} (j here : ℕ) → AddsTo links pairs c before m at done → at ≡ Some here → suc j ≡ m → true ≡ has done here → done ≡ with_above links pairs before c
  added_there {at = at} j here h is room found = ap (climbed_by links pairs j here done) found ∙ ap₂ (λ m at. climbed links pairs m at done) room (sym is) ∙ h.rest

pub added_none : {links : List (Option Link)} {pairs : List Entry} {c m : ℕ} {before done : List ℕ} {at : Option ℕ} → AddsTo links pairs c before m at done → at ≡ None → done ≡ with_above links pairs before c
added_none {m = zero} h is = h.rest
added_none {links = links} {pairs = pairs} {m = suc m} {done = done} h is = ap (λ at. climbed links pairs (suc m) at done) (sym is) ∙ h.rest

pub added_last : {links : List (Option Link)} {pairs : List Entry} {c m : ℕ} {before done : List ℕ} {at : Option ℕ} → AddsTo links pairs c before m at done → m ≡ 0 → done ≡ with_above links pairs before c
added_last {links = links} {pairs = pairs} {done = done} {at = at} h room = ap (λ m. climbed links pairs m at done) (sym room) ∙ h.rest

module _ {links : List (Option Link)} {pairs : List Entry} {c m : ℕ} {before done : List ℕ} where
  pub listed_more : {at : Option ℕ} (j here : ℕ) (next : Option ℕ) (more : List ℕ) → ListsTo links pairs c before m at done → at ≡ Some here → suc j ≡ m → more ≡ done ++ with_uppers pairs here
      → next ≡ open_up links pairs c here → ListsTo links pairs c before j next more
  listed_more {at = at} j here next more h is room pushed up = record {
    rest = ap₂ (λ xs at. xs ++ flat_map (with_uppers pairs) (walk (open_up links pairs c) j at)) pushed up
        ∙ append_assoc done (with_uppers pairs here) (flat_map (with_uppers pairs) (walk (open_up links pairs c) j (open_up links pairs c here)))
        ∙ ap₂ (λ m at. done ++ flat_map (with_uppers pairs) (walk (open_up links pairs c) m at)) room (sym is) ∙ h.rest;
  }

pub listed_none : {links : List (Option Link)} {pairs : List Entry} {c m : ℕ} {before done : List ℕ} {at : Option ℕ} → ListsTo links pairs c before m at done → at ≡ None → done ≡ before ++ at_or_above links pairs c
listed_none {m = zero} {done = done} h is = sym (append-nil done) ∙ h.rest
listed_none {links = links} {pairs = pairs} {c = c} {m = suc m} {done = done} h is =
    sym (append-nil done) ∙ ap (λ at. done ++ flat_map (with_uppers pairs) (walk (open_up links pairs c) (suc m) at)) (sym is) ∙ h.rest

pub listed_last : {links : List (Option Link)} {pairs : List Entry} {c m : ℕ} {before done : List ℕ} {at : Option ℕ} → ListsTo links pairs c before m at done → m ≡ 0 → done ≡ before ++ at_or_above links pairs c
listed_last {links = links} {pairs = pairs} {c = c} {done = done} {at = at} h room = sym (append-nil done) ∙ ap (λ m. done ++ flat_map (with_uppers pairs) (walk (open_up links pairs c) m at)) (sym room) ∙ h.rest
