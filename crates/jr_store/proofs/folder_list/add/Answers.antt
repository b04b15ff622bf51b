use Rattle.std.proofs.Common.{◌≡◌, ◌<◌, ◌++◌, ◌∷◌, [], List, ℕ, cond, length, rules, true, false}
use Rattle.std.specs.HashSet.{contains_text}
use Rattle.std.specs.Prelude.{bytes_eq, string_bytes}
use Rattle.jr_base.specs.Paths.{is_java}
use Rattle.jr_store.proofs.Listing.{listed_more}
use Rattle.jr_store.proofs.folder_list.add.Goals as goal

pub returns-in_ok-put : goal.returns-in_ok-put
returns-in_ok-put c = λ listed.
    let all = c.args.listed.now in
    let more = c.put.new.listed in
    let path = c.in-Ok.path in
    let room : length all.paths.items < c.args.most = search rules in
    let java : is_java path ≡ true = search rules in
    let same : path ≡ string_bytes c.args.name = search rules in
    let new : contains_text all.names path ≡ false = search rules in
    let pushed : more.paths.items ≡ all.paths.items ++ path ∷ [] = search rules in
    let named : (q : List ℕ) → contains_text more.names q ≡ cond (bytes_eq path q) true (contains_text all.names q) = search rules in
    listed_more c.args.most all more path listed room java new pushed named
