-- Each class that is written out is read, and each token is what it is in the tree.
use Rattle.std.proofs.Common.{◌≡◌, ℕ, ◌+◌, ◌*◌, List, [], ◌∷◌, ◌++◌, length, Some, None, Option, suc, refl, sym, ap, ◌∙◌, arith, append_assoc}
use Rattle.std.specs.Prelude.{option_and_then, option_map}
use Rattle.jr_base.specs.declared.kind.Kind.{Kind}
use Rattle.jr_base.specs.declared.kind.Kind.TheVariants as kind
use Rattle.jr_base.specs.declared.kind.Keyword.TheVariants as keyword
use Rattle.jr_base.specs.declared.kind.Symbol.TheVariants as symbol
use Rattle.jr_thin.specs.declared.sites.Site.{Site}
use Rattle.jr_thin.specs.declared.sites.Role.TheVariants as role
use Rattle.jr_thin.specs.declared.reading.Phase.{Phase}
use Rattle.jr_thin.specs.declared.reading.Phase.TheVariants as phase
use Rattle.jr_thin.specs.declared.reading.Step.{Step}
use Rattle.jr_thin.specs.Reading.{sites_from, sites_in, next, with_front, pluses, terminal_of, plain_step, site_of, method_after, nodes_of}
use Rattle.jr_thin.specs.Sites.{plain, param_site, operand_nodes, others_nodes, sum_nodes, operand_sites, others_sites, sum_sites, statement_nodes, statement_sites, body_nodes, body_sites, later_sites, params_sites, method_nodes, method_sites, methods_sites, sites_of}
use Rattle.jr_thin.specs.Trees.{Operand, Sum, Statement, Method, ThinClass, operand_tokens, others_tokens, sum_tokens, statement_tokens, later_params, params_tokens, body_tokens, method_tokens, methods_tokens, tokens_of}
use Rattle.jr_thin.specs.Trees as tree

abbrev end : List Site
end = plain ∷ []

abbrev Found : Type 0
Found = Option (List Site)

then_front : (a b : List Site) (more : Found) → with_front a (with_front b more) ≡ with_front (a ++ b) more
then_front a b None = refl
then_front a b (Some rest) = ap Some (sym (append_assoc a b rest))

-- a walk and then another
chain : (a b : List Site) (o p q : Found) → o ≡ with_front a p → p ≡ with_front b q → o ≡ with_front (a ++ b) q
chain a b o p q first second = first ∙ ap (with_front a) second ∙ then_front a b q

-- the same from an equal number on
at_node : (p : Phase) (method i j : ℕ) (ks : List Kind) → i ≡ j → sites_from p method i ks ≡ sites_from p method j ks
at_node p method i j ks same = ap (λ n. sites_from p method n ks) same

at_kinds : (p : Phase) (method node : ℕ) (ks ls : List Kind) → ks ≡ ls → sites_from p method node ks ≡ sites_from p method node ls
at_kinds p method node ks ls same = ap (sites_from p method node) same

grouped : (o q : Found) (a b : List Site) → o ≡ with_front a q → a ≡ b → o ≡ with_front b q
grouped o q a b walk same = walk ∙ ap (λ l. with_front l q) same

-- a token that is no name
plain_walk : (p q : Phase) (k : Kind) (nodes method node after : ℕ) (rest : List Kind) → next p (terminal_of k) ≡ Some (plain_step q nodes) → node + nodes ≡ after
    → sites_from p method node (k ∷ rest) ≡ with_front end (sites_from q method after rest)
plain_walk p q k nodes method node after rest is count =
    ap (option_and_then (λ (step : Step). option_map (λ (sites : List Site). site_of step.role method node k ∷ sites) (sites_from step.phase (method_after method step) (node + nodes_of step rest) rest))) is
    ∙ ap (with_front end) (at_node q method (node + (nodes + 0)) after rest (omega arith))

operand_walk : (method node : ℕ) (t : Operand) (rest : List Kind) → sites_from phase.Term method node (operand_tokens t ++ rest) ≡ with_front (operand_sites method node t) (sites_from phase.AfterTerm method (node + operand_nodes t) rest)
unfolding next
operand_walk method node (tree.Literal n) rest = refl
operand_walk method node (tree.Name x) rest = refl

semicolon : (method node : ℕ) (rest : List Kind) → sites_from phase.AfterTerm method node (kind.Sym symbol.Semicolon ∷ rest) ≡ with_front end (sites_from phase.Statement method node rest)
unfolding next
semicolon method node rest = plain_walk phase.AfterTerm phase.Statement (kind.Sym symbol.Semicolon) 0 method node node rest refl (omega arith)

plus : (method node : ℕ) (rest : List Kind) → sites_from phase.AfterTerm method node (kind.Sym symbol.Plus ∷ rest) ≡ with_front end (sites_from phase.Term method node rest)
unfolding next
plus method node rest = plain_walk phase.AfterTerm phase.Term (kind.Sym symbol.Plus) 0 method node node rest refl (omega arith)

others_walk : (method node : ℕ) (ts : List Operand) (rest : List Kind) → sites_from phase.AfterTerm method node (others_tokens ts ++ kind.Sym symbol.Semicolon ∷ rest) ≡ with_front (others_sites method node ts ++ end) (sites_from phase.Statement method (node + others_nodes ts) rest)
others_walk method node [] rest = semicolon method node rest ∙ ap (with_front end) (at_node phase.Statement method node (node + 0) rest (omega arith))
others_walk method node (t ∷ ts) rest =
    let more = others_tokens ts ++ kind.Sym symbol.Semicolon ∷ rest in
    let here = node + operand_nodes t in
    grouped _ _ _ _ (at_kinds phase.AfterTerm method node _ _ (append_assoc (kind.Sym symbol.Plus ∷ operand_tokens t) (others_tokens ts) (kind.Sym symbol.Semicolon ∷ rest))
    ∙ chain end _ _ _ _ (plus method node (operand_tokens t ++ more)) (chain (operand_sites method node t) _ _ _ _ (operand_walk method node t more)
    (others_walk method here ts rest ∙ ap (with_front (others_sites method here ts ++ end)) (at_node phase.Statement method (here + others_nodes ts) (node + (operand_nodes t + others_nodes ts)) rest (omega arith)))))
    (ap (λ (l : List Site). plain ∷ l) (sym (append_assoc (operand_sites method node t) (others_sites method here ts) end)))

-- the operands of a sum whose operators are counted already
sum_walk : (method node : ℕ) (e : Sum) (rest : List Kind) → sites_from phase.Term method node (sum_tokens e ++ kind.Sym symbol.Semicolon ∷ rest)
    ≡ with_front ((operand_sites method node e.first ++ others_sites method (node + operand_nodes e.first) e.others) ++ end) (sites_from phase.Statement method (node + (operand_nodes e.first + others_nodes e.others)) rest)
sum_walk method node e rest =
    let more = others_tokens e.others ++ kind.Sym symbol.Semicolon ∷ rest in
    let here = node + operand_nodes e.first in
    grouped _ _ _ _ (at_kinds phase.Term method node _ _ (append_assoc (operand_tokens e.first) (others_tokens e.others) (kind.Sym symbol.Semicolon ∷ rest))
    ∙ chain (operand_sites method node e.first) _ _ _ _ (operand_walk method node e.first more)
    (others_walk method here e.others rest ∙ ap (with_front (others_sites method here e.others ++ end)) (at_node phase.Statement method (here + others_nodes e.others) (node + (operand_nodes e.first + others_nodes e.others)) rest (omega arith))))
    (sym (append_assoc (operand_sites method node e.first) (others_sites method here e.others) end))

operand_pluses : (t : Operand) (rest : List Kind) → pluses (operand_tokens t ++ rest) ≡ pluses rest
operand_pluses (tree.Literal n) rest = refl
operand_pluses (tree.Name x) rest = refl

others_pluses : (ts : List Operand) (rest : List Kind) → pluses (others_tokens ts ++ kind.Sym symbol.Semicolon ∷ rest) ≡ length ts
others_pluses [] rest = refl
others_pluses (t ∷ ts) rest =
    let more = others_pluses ts rest in
    let here = operand_pluses t (others_tokens ts ++ kind.Sym symbol.Semicolon ∷ rest) in
    ap pluses (append_assoc (kind.Sym symbol.Plus ∷ operand_tokens t) (others_tokens ts) (kind.Sym symbol.Semicolon ∷ rest))
    ∙ ap (λ n. 1 + n) (here ∙ more) ∙ suc_one (length ts)
  where
    suc_one : (n : ℕ) → 1 + n ≡ suc n
    suc_one n = omega arith

sum_pluses : (e : Sum) (rest : List Kind) → pluses (sum_tokens e ++ kind.Sym symbol.Semicolon ∷ rest) ≡ length e.others
sum_pluses e rest =
    ap pluses (append_assoc (operand_tokens e.first) (others_tokens e.others) (kind.Sym symbol.Semicolon ∷ rest))
    ∙ operand_pluses e.first (others_tokens e.others ++ kind.Sym symbol.Semicolon ∷ rest) ∙ others_pluses e.others rest

-- a sum and its semicolon, after `=` or `return`
whole_sum : (method node : ℕ) (e : Sum) (rest : List Kind) → sites_from phase.Term method (node + pluses (sum_tokens e ++ kind.Sym symbol.Semicolon ∷ rest)) (sum_tokens e ++ kind.Sym symbol.Semicolon ∷ rest)
    ≡ with_front (sum_sites method node e ++ end) (sites_from phase.Statement method (node + sum_nodes e) rest)
whole_sum method node e rest =
    let first = node + length e.others in
    at_node phase.Term method (node + pluses (sum_tokens e ++ kind.Sym symbol.Semicolon ∷ rest)) first (sum_tokens e ++ kind.Sym symbol.Semicolon ∷ rest) (ap (λ n. node + n) (sum_pluses e rest))
    ∙ sum_walk method first e rest
    ∙ ap (with_front (sum_sites method node e ++ end)) (at_node phase.Statement method (first + (operand_nodes e.first + others_nodes e.others)) (node + sum_nodes e) rest (omega arith))

-- `=` or `return`, which counts the operators behind it
assign : (method node : ℕ) (rest : List Kind) → sites_from phase.LocalAssign method node (kind.Sym symbol.Assign ∷ rest) ≡ with_front end (sites_from phase.Term method (node + pluses rest) rest)
unfolding next
assign method node rest = ap (with_front end) (at_node phase.Term method (node + (0 + pluses rest)) (node + pluses rest) rest (omega arith))

return : (method node : ℕ) (rest : List Kind) → sites_from phase.Statement method node (kind.Word keyword.Return ∷ rest) ≡ with_front end (sites_from phase.Term method ((node + 1) + pluses rest) rest)
unfolding next
return method node rest = ap (with_front end) (at_node phase.Term method (node + (1 + pluses rest)) ((node + 1) + pluses rest) rest (omega arith))

abbrev local_site : ℕ → ℕ → List ℕ → Site
local_site method node x = record { role = role.Local; method = method; node = node + 2; text = x }

local_int : (method node : ℕ) (rest : List Kind) → sites_from phase.Statement method node (kind.Word keyword.Int ∷ rest) ≡ with_front end (sites_from phase.LocalName method node rest)
unfolding next
local_int method node rest = plain_walk phase.Statement phase.LocalName (kind.Word keyword.Int) 0 method node node rest refl (omega arith)

local_name : (method node : ℕ) (x : List ℕ) (rest : List Kind) → sites_from phase.LocalName method node (kind.Ident x ∷ rest) ≡ with_front (local_site method node x ∷ []) (sites_from phase.LocalAssign method (node + 4) rest)
unfolding next
local_name method node x rest = refl

statement_walk : (method node : ℕ) (s : Statement) (rest : List Kind) → sites_from phase.Statement method node (statement_tokens s ++ rest) ≡ with_front (statement_sites method node s) (sites_from phase.Statement method (node + statement_nodes s) rest)
statement_walk method node (tree.Local x e) rest =
    let behind = sum_tokens e ++ kind.Sym symbol.Semicolon ∷ rest in
    at_kinds phase.Statement method node _ _ (append_assoc (kind.Word keyword.Int ∷ kind.Ident x ∷ kind.Sym symbol.Assign ∷ sum_tokens e) (kind.Sym symbol.Semicolon ∷ []) rest)
    ∙ chain end (local_site method node x ∷ plain ∷ (sum_sites method (node + 4) e ++ end)) _ _ _ (local_int method node (kind.Ident x ∷ kind.Sym symbol.Assign ∷ behind)) (chain (local_site method node x ∷ []) (plain ∷ (sum_sites method (node + 4) e ++ end)) _ _ _ (local_name method node x (kind.Sym symbol.Assign ∷ behind))
    (chain end (sum_sites method (node + 4) e ++ end) _ _ _ (assign method (node + 4) behind) (whole_sum method (node + 4) e rest
    ∙ ap (with_front (sum_sites method (node + 4) e ++ end)) (at_node phase.Statement method ((node + 4) + sum_nodes e) (node + (4 + sum_nodes e)) rest (omega arith)))))
statement_walk method node (tree.Return e) rest =
    let behind = sum_tokens e ++ kind.Sym symbol.Semicolon ∷ rest in
    at_kinds phase.Statement method node _ _ (append_assoc (kind.Word keyword.Return ∷ sum_tokens e) (kind.Sym symbol.Semicolon ∷ []) rest)
    ∙ chain end _ _ _ _ (return method node behind) (whole_sum method (node + 1) e rest
    ∙ ap (with_front (sum_sites method (node + 1) e ++ end)) (at_node phase.Statement method ((node + 1) + sum_nodes e) (node + (1 + sum_nodes e)) rest (omega arith)))

body_end : (method node : ℕ) (rest : List Kind) → sites_from phase.Statement method node (kind.Sym symbol.CloseBrace ∷ rest) ≡ with_front end (sites_from phase.Member (method + 1) (node + 0) rest)
unfolding next
body_end method node rest = refl

body_walk : (method node : ℕ) (ss : List Statement) (rest : List Kind) → sites_from phase.Statement method node (body_tokens ss ++ kind.Sym symbol.CloseBrace ∷ rest) ≡ with_front (body_sites method node ss ++ end) (sites_from phase.Member (method + 1) (node + body_nodes ss) rest)
body_walk method node [] rest = body_end method node rest
body_walk method node (s ∷ ss) rest =
    let here = node + statement_nodes s in
    grouped _ _ _ _ (at_kinds phase.Statement method node _ _ (append_assoc (statement_tokens s) (body_tokens ss) (kind.Sym symbol.CloseBrace ∷ rest))
    ∙ chain (statement_sites method node s) _ _ _ _ (statement_walk method node s (body_tokens ss ++ kind.Sym symbol.CloseBrace ∷ rest))
    (body_walk method here ss rest ∙ ap (with_front (body_sites method here ss ++ end)) (at_node phase.Member (method + 1) (here + body_nodes ss) (node + (statement_nodes s + body_nodes ss)) rest (omega arith))))
    (sym (append_assoc (statement_sites method node s) (body_sites method here ss) end))

param_name : (method node : ℕ) (x : List ℕ) (rest : List Kind) → sites_from phase.ParamName method node (kind.Ident x ∷ rest) ≡ with_front (param_site method node x ∷ []) (sites_from phase.AfterParam method (node + 2) rest)
unfolding next
param_name method node x rest = ap (λ n. with_front (param_site method n x ∷ []) (sites_from phase.AfterParam method (node + 2) rest)) (zero_more node)
  where
    zero_more : (n : ℕ) → n + 0 ≡ n
    zero_more n = omega arith

comma : (method node : ℕ) (rest : List Kind) → sites_from phase.AfterParam method node (kind.Sym symbol.Comma ∷ rest) ≡ with_front end (sites_from phase.NextParam method node rest)
unfolding next
comma method node rest = plain_walk phase.AfterParam phase.NextParam (kind.Sym symbol.Comma) 0 method node node rest refl (omega arith)

next_int : (method node : ℕ) (rest : List Kind) → sites_from phase.NextParam method node (kind.Word keyword.Int ∷ rest) ≡ with_front end (sites_from phase.ParamName method node rest)
unfolding next
next_int method node rest = plain_walk phase.NextParam phase.ParamName (kind.Word keyword.Int) 0 method node node rest refl (omega arith)

first_int : (method node : ℕ) (rest : List Kind) → sites_from phase.FirstParam method node (kind.Word keyword.Int ∷ rest) ≡ with_front end (sites_from phase.ParamName method node rest)
unfolding next
first_int method node rest = plain_walk phase.FirstParam phase.ParamName (kind.Word keyword.Int) 0 method node node rest refl (omega arith)

later_end : (method node : ℕ) (rest : List Kind) → sites_from phase.AfterParam method node (kind.Sym symbol.CloseParen ∷ rest) ≡ with_front end (sites_from phase.BodyOpen method node rest)
unfolding next
later_end method node rest = plain_walk phase.AfterParam phase.BodyOpen (kind.Sym symbol.CloseParen) 0 method node node rest refl (omega arith)

params_end : (method node : ℕ) (rest : List Kind) → sites_from phase.FirstParam method node (kind.Sym symbol.CloseParen ∷ rest) ≡ with_front end (sites_from phase.BodyOpen method node rest)
unfolding next
params_end method node rest = plain_walk phase.FirstParam phase.BodyOpen (kind.Sym symbol.CloseParen) 0 method node node rest refl (omega arith)

later_walk : (method node : ℕ) (xs : List (List ℕ)) (rest : List Kind) → sites_from phase.AfterParam method node (later_params xs ++ kind.Sym symbol.CloseParen ∷ rest) ≡ with_front (later_sites method node xs ++ end) (sites_from phase.BodyOpen method (node + 2 * length xs) rest)
later_walk method node [] rest = later_end method node rest ∙ ap (with_front end) (at_node phase.BodyOpen method node (node + 2 * length {A = List ℕ} []) rest (omega arith))
later_walk method node (x ∷ xs) rest =
    let behind = later_params xs ++ kind.Sym symbol.CloseParen ∷ rest in
    let last = later_sites method (node + 2) xs ++ end in
    chain end (plain ∷ param_site method node x ∷ last) _ _ _ (comma method node (kind.Word keyword.Int ∷ kind.Ident x ∷ behind)) (chain end (param_site method node x ∷ last) _ _ _ (next_int method node (kind.Ident x ∷ behind))
    (chain (param_site method node x ∷ []) last _ _ _ (param_name method node x behind) (later_walk method (node + 2) xs rest
    ∙ ap (with_front last) (at_node phase.BodyOpen method ((node + 2) + 2 * length xs) (node + 2 * length (x ∷ xs)) rest (omega arith)))))

params_walk : (method node : ℕ) (xs : List (List ℕ)) (rest : List Kind) → sites_from phase.FirstParam method node (params_tokens xs ++ kind.Sym symbol.CloseParen ∷ rest) ≡ with_front (params_sites method node xs ++ end) (sites_from phase.BodyOpen method (node + 2 * length xs) rest)
params_walk method node [] rest = params_end method node rest ∙ ap (with_front end) (at_node phase.BodyOpen method node (node + 2 * length {A = List ℕ} []) rest (omega arith))
params_walk method node (x ∷ xs) rest =
    let behind = later_params xs ++ kind.Sym symbol.CloseParen ∷ rest in
    let last = later_sites method (node + 2) xs ++ end in
    chain end (param_site method node x ∷ last) _ _ _ (first_int method node (kind.Ident x ∷ behind))
    (chain (param_site method node x ∷ []) last _ _ _ (param_name method node x behind) (later_walk method (node + 2) xs rest
    ∙ ap (with_front last) (at_node phase.BodyOpen method ((node + 2) + 2 * length xs) (node + 2 * length (x ∷ xs)) rest (omega arith))))

abbrev header : List Site
header = plain ∷ plain ∷ plain ∷ plain ∷ []

header_walk : (method node : ℕ) (x : List ℕ) (rest : List Kind) → sites_from phase.Member method node (kind.Word keyword.Static ∷ kind.Word keyword.Int ∷ kind.Ident x ∷ kind.Sym symbol.OpenParen ∷ rest) ≡ with_front header (sites_from phase.FirstParam method (node + 2) rest)
unfolding next
header_walk method node x rest =
    chain end (plain ∷ plain ∷ end) _ _ _ (plain_walk phase.Member phase.MemberInt (kind.Word keyword.Static) 1 method node (node + 1) (kind.Word keyword.Int ∷ kind.Ident x ∷ kind.Sym symbol.OpenParen ∷ rest) refl (omega arith))
    (chain end (plain ∷ end) _ _ _ (plain_walk phase.MemberInt phase.MethodName (kind.Word keyword.Int) 1 method (node + 1) (node + 2) (kind.Ident x ∷ kind.Sym symbol.OpenParen ∷ rest) refl (omega arith))
    (chain end end _ _ _ (plain_walk phase.MethodName phase.ParamsOpen (kind.Ident x) 0 method (node + 2) (node + 2) (kind.Sym symbol.OpenParen ∷ rest) refl (omega arith))
    (plain_walk phase.ParamsOpen phase.FirstParam (kind.Sym symbol.OpenParen) 0 method (node + 2) (node + 2) rest refl (omega arith))))

body_open : (method node : ℕ) (rest : List Kind) → sites_from phase.BodyOpen method node (kind.Sym symbol.OpenBrace ∷ rest) ≡ with_front end (sites_from phase.Statement method (node + 1) rest)
unfolding next
body_open method node rest = plain_walk phase.BodyOpen phase.Statement (kind.Sym symbol.OpenBrace) 1 method node (node + 1) rest refl refl

regrouped : {A : Type 0} (head params start body close rest : List A) → ((head ++ params) ++ ((start ++ body) ++ close)) ++ rest ≡ head ++ (params ++ (start ++ (body ++ (close ++ rest))))
regrouped head params start body close rest = simp append_assoc

sites_regrouped : {A : Type 0} (head params close start body last : List A) → head ++ ((params ++ close) ++ (start ++ (body ++ last))) ≡ (head ++ params) ++ (((close ++ start) ++ body) ++ last)
sites_regrouped head params close start body last = simp append_assoc

method_walk : (method node : ℕ) (m : Method) (rest : List Kind) → sites_from phase.Member method node (method_tokens m ++ rest) ≡ with_front (method_sites method node m) (sites_from phase.Member (method + 1) (node + method_nodes m) rest)
method_walk method node m rest =
    let body = body_tokens m.body ++ kind.Sym symbol.CloseBrace ∷ rest in
    let start = (node + 2) + 2 * length m.params in
    let params = params_tokens m.params ++ kind.Sym symbol.CloseParen ∷ kind.Sym symbol.OpenBrace ∷ body in
    let first = node + (3 + 2 * length m.params) in
    let last = body_sites method first m.body ++ end in
    grouped _ _ (header ++ ((params_sites method (node + 2) m.params ++ end) ++ (end ++ last))) (method_sites method node m) (at_kinds phase.Member method node _ _ (regrouped (kind.Word keyword.Static ∷ kind.Word keyword.Int ∷ kind.Ident m.name ∷ kind.Sym symbol.OpenParen ∷ []) (params_tokens m.params) (kind.Sym symbol.CloseParen ∷ kind.Sym symbol.OpenBrace ∷ []) (body_tokens m.body) (kind.Sym symbol.CloseBrace ∷ []) rest)
    ∙ chain header ((params_sites method (node + 2) m.params ++ end) ++ (end ++ last)) _ _ _ (header_walk method node m.name params) (chain (params_sites method (node + 2) m.params ++ end) (end ++ last) _ _ _ (params_walk method (node + 2) m.params (kind.Sym symbol.OpenBrace ∷ body))
    (chain end last _ _ _ (body_open method start body ∙ ap (with_front end) (at_node phase.Statement method (start + 1) first body (omega arith)))
    (body_walk method first m.body rest ∙ ap (with_front last) (at_node phase.Member (method + 1) (first + body_nodes m.body) (node + method_nodes m) rest (omega arith))))))
    (sites_regrouped header (params_sites method (node + 2) m.params) end end (body_sites method first m.body) end)

methods_end : (method node : ℕ) → sites_from phase.Member method node (kind.Sym symbol.CloseBrace ∷ []) ≡ Some end
unfolding next
methods_end method node = refl

methods_walk : (method node : ℕ) (ms : List Method) → sites_from phase.Member method node (methods_tokens ms ++ kind.Sym symbol.CloseBrace ∷ []) ≡ Some (methods_sites method node ms ++ end)
methods_walk method node [] = methods_end method node
methods_walk method node (m ∷ ms) =
    at_kinds phase.Member method node _ _ (append_assoc (method_tokens m) (methods_tokens ms) (kind.Sym symbol.CloseBrace ∷ []))
    ∙ method_walk method node m (methods_tokens ms ++ kind.Sym symbol.CloseBrace ∷ [])
    ∙ ap (with_front (method_sites method node m)) (methods_walk (method + 1) (node + method_nodes m) ms)
    ∙ ap Some (sym (append_assoc (method_sites method node m) (methods_sites (method + 1) (node + method_nodes m) ms) end))

class_open : (x : List ℕ) (rest : List Kind) → sites_from phase.Start 0 0 (kind.Word keyword.Class ∷ kind.Ident x ∷ kind.Sym symbol.OpenBrace ∷ rest) ≡ with_front (plain ∷ plain ∷ plain ∷ []) (sites_from phase.Member 0 2 rest)
unfolding next
class_open x rest =
    chain end (plain ∷ end) _ _ _ (plain_walk phase.Start phase.ClassName (kind.Word keyword.Class) 2 0 0 2 (kind.Ident x ∷ kind.Sym symbol.OpenBrace ∷ rest) refl refl)
    (chain end end _ _ _ (plain_walk phase.ClassName phase.ClassOpen (kind.Ident x) 0 0 2 2 (kind.Sym symbol.OpenBrace ∷ rest) refl refl)
    (plain_walk phase.ClassOpen phase.Member (kind.Sym symbol.OpenBrace) 0 0 2 2 rest refl refl))

-- the class is read, and its tokens are what they are in the tree
pub class_walk : (c : ThinClass) → sites_in (tokens_of c) ≡ Some (sites_of c)
class_walk c =
    at_kinds phase.Start 0 0 _ _ (append_assoc (kind.Word keyword.Class ∷ kind.Ident c.name ∷ kind.Sym symbol.OpenBrace ∷ []) (methods_tokens c.methods) (kind.Sym symbol.CloseBrace ∷ []))
    ∙ class_open c.name (methods_tokens c.methods ++ kind.Sym symbol.CloseBrace ∷ [])
    ∙ ap (with_front (plain ∷ plain ∷ plain ∷ [])) (methods_walk 0 2 c.methods)
