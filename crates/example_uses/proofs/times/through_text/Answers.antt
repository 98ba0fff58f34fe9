use Rattle.example_uses.proofs.times.through_text.Goals as goal

pub returns : goal.returns
returns c = (c.read_text.ensures.exact c.args.utc.now).1 (c.requires, c.write_text.ensures.text)
