use Rattle.std.proofs.Common.{◌≡◌, ap, sym, length, rules, arith, ◌∙◌}
use Rattle.std.specs.Option.{option_flatten}
use Rattle.std.proofs.lemmas.Iterator.Consumers.{nth_from_yields_List, YieldsList-from_shown}
use Rattle.packet.specs.Entries.{NextEntry}
use Rattle.packet.proofs.Walks.{entries_left, row_of, no_entries, entry_after, entry_nth, entry_past}
use Rattle.packet.proofs.message.Report.entry.Goals as goal

pub returns-then-view : goal.returns-then-view
returns-then-view c = sym (entry_past c.args.self.now.entries.now c.args.self.now.view c.args.view 0 (omega (arith, c.if-view.true, c.view.ensures)))

pub returns : goal.returns
returns c =
    let all = nth_from_yields_List c.nth.result c.nth.new.self c.args.view c.nth.ensures.ran (YieldsList-from_shown NextEntry row_of entries_left (λ s t h. ap length (no_entries s h.0)) entry_after c.iter.result) in
    let row : c.map.result ≡ row_of (option_flatten c.nth.result) = search rules in
    row ∙ entry_nth (entries_left c.iter.result) c.args.view c.nth.result all ∙ cc
