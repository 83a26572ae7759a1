use Rattle.list_compiler.proofs.Compiled.{few_in_all, no_room, whole_list}
use Rattle.list_compiler.proofs.write_list.Goals as goal

pub returns-then-buffer-size : goal.returns-then-buffer-size
returns-then-buffer-size c = no_room c.args.file.now c.args.counts c.requires.counted _ c.if-buffer-size.true

pub put_records-requires-clause-few : goal.put_records-requires-clause-few
put_records-requires-clause-few c = few_in_all c.args.file.now c.args.counts c.requires.counted

pub returns : goal.returns
returns c =
    whole_list c.args.file.now c.args.counts c.requires.counted _ _ _ _ _ _ _ c.if-buffer-size.false
    c.put_header-at_entries.ensures c.put_all_entries-at_records.ensures c.put_records.ensures
