use Rattle.jr_request.proofs.Arity.{command_of-four, command_of-five}
use Rattle.jr_request.proofs.words.read_words.Goals as goal

pub returns-in-len4 : goal.returns-in-len4
returns-in-len4 c =
    let word = c.command-item-then-words-lt5 in
    let same = rw c.bytes-in-len4.ensures at c.two_words.ensures in
    rw (← command_of-four c.args.words.now word.result c.first-item.result c.second-item.result c.in-len4.len_at_least c.in-len4.len_below word.is c.first-item.is c.second-item.is) same

pub returns-in-len5 : goal.returns-in-len5
returns-in-len5 c =
    let word = c.command-item-then-words-lt6 in
    let same = rw c.bytes-in-len5.ensures at c.place_and_name.ensures in
    rw (← command_of-five c.args.words.now word.result c.file-item.result c.at-item.result c.name-item.result c.in-len5.len_at_least c.in-len5.len_below word.is c.file-item.is c.at-item.is c.name-item.is) same
