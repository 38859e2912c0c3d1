use Rattle.std.proofs.Common.{◌≡◌, ◌++◌, codes, drop}
use Rattle.sig_model.specs.PlainTy.{plain_tys, plain_keys, plain_args}
use Rattle.rbs_printer.specs.Types.{texts_at, key_texts, argument_texts}
use Rattle.rbs_printer.specs.Listed.{listed, some_listed, site_of}
use Rattle.rbs_printer.proofs.types.+type_text.Given as goal

abbrev pub invariant-add_types-loop-ty : goal.invariant-add_types-loop-ty
invariant-add_types-loop-ty l =
    l.out ++ listed l.listed l.between (texts_at (site_of l.site) (plain_tys (drop l.ty-index l.types)))
    ≡ l.initial.out ++ listed l.initial.listed l.between (texts_at (site_of l.site) (plain_tys l.types))

abbrev pub invariant-add_keys-loop-key : goal.invariant-add_keys-loop-key
invariant-add_keys-loop-key l = record {
  text : l.out ++ listed l.listed (codes ", ") (key_texts (plain_keys (drop l.key-index l.keys))) ≡ l.initial.out ++ listed l.initial.listed (codes ", ") (key_texts (plain_keys l.keys));
  some : some_listed l.listed (key_texts (plain_keys (drop l.key-index l.keys))) ≡ some_listed l.initial.listed (key_texts (plain_keys l.keys));
}

abbrev pub invariant-add_arguments-loop-arg : goal.invariant-add_arguments-loop-arg
invariant-add_arguments-loop-arg l = record {
  text : l.out ++ listed l.listed (codes ", ") (argument_texts l.mark (plain_args (drop l.arg-index l.args))) ≡ l.initial.out ++ listed l.initial.listed (codes ", ") (argument_texts l.mark (plain_args l.args));
  some : some_listed l.listed (argument_texts l.mark (plain_args (drop l.arg-index l.args))) ≡ some_listed l.initial.listed (argument_texts l.mark (plain_args l.args));
}
