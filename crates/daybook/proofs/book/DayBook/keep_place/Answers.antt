use Rattle.std.proofs.Common.{ap, ◌∙◌}
use Rattle.table.specs.Tables.{entries}
use Rattle.figures.specs.Entries.{place_key}
use Rattle.figures.specs.Named.{all_placed}
use Rattle.daybook.specs.Numbers.{every, has_whole_prices}
use Rattle.daybook.proofs.Keeping.{every-replaced}
use Rattle.daybook.proofs.book.DayBook.keep_place.Goals as goal

pub invariant_of-self-clause-placed : goal.invariant_of-self-clause-placed
invariant_of-self-clause-placed c = let b = c.args.self.now in ap (λ ids. all_placed ids (entries b.resources)) c.replace.ensures.keys ∙ b.placed

pub invariant_of-self-clause-prices_whole : goal.invariant_of-self-clause-prices_whole
invariant_of-self-clause-prices_whole c =
    let b = c.args.self.now in
    ap (every has_whole_prices) c.replace.ensures.after ∙ every-replaced place_key has_whole_prices c.args.place c.requires (entries b.places) b.prices_whole
