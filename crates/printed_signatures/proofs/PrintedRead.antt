-- The printed form of declarations that some text spells is read back equal.
use Rattle.std.proofs.Common.{ℕ, ◌+◌, ◌≤◌, ◌≡◌, refl, sym, subst, List, [], ◌∷◌, arith}
use Rattle.sig_model.specs.PlainDecl as decl
use Rattle.sig_model.specs.PlainDecl.{PlainDecls}
use Rattle.rbs_lexer.specs.declared.token.SigToken.{SigToken}
use Rattle.rbs_lexer.specs.Division.{whole, Divides}
use Rattle.rbs_terminals.specs.declared.token.Token.{Token}
use Rattle.rbs_terminals.specs.declared.token.Kind.{Kind}
use Rattle.rbs_terminals.specs.declared.token.Kind.TheVariants as kind
use Rattle.rbs_terminals.specs.Terminals.{terminals}
use Rattle.rbs_types.specs.Limits.{is_small, IsSmall}
use Rattle.rbs_types.specs.Answers.{last_end}
use Rattle.viable_prefixes.specs.Runs.{Each}
use Rattle.rbs_declarations.specs.Limits.{IsText}
use Rattle.rbs_printer.specs.Declarations.{printed}
use Rattle.printed_tokens.specs.Pieces.{Line, lines_text, lines_tokens, AreApart}
use Rattle.printed_tokens.specs.Layout.{all_lines}
use Rattle.printed_tokens.proofs.Rendered.{rendered}
use Rattle.printed_tokens.proofs.Divided.{divided}
use Rattle.printed_tokens.proofs.Fitting.{fits}
use Rattle.printed_signatures.specs.Writable.{AreWritable}
use Rattle.printed_signatures.specs.Lexical.{IsLexicalKind, IsLexical}
use Rattle.printed_signatures.specs.ReadBack.{Spells, ReadsBack}
use Rattle.printed_signatures.proofs.TypesWritable.{AreLexical}
use Rattle.printed_signatures.proofs.TerminalsLexical.{all_lexical}
use Rattle.printed_signatures.proofs.DeclarationsWritable.{file_written}
use Rattle.printed_signatures.proofs.LinesApart.{all_apart}
use Rattle.printed_signatures.proofs.DeclarationsNeed.{file_needs}
use Rattle.printed_signatures.proofs.DeclarationsRead.{declarations_back}
use Rattle.printed_signatures.proofs.PlacesAside.{same_printed, same_height}

small_kind : (k : Kind) → IsLexicalKind k → is_small k
small_kind kind.PastInteger h = absurd h
small_kind _ h = tt

all_small : (ts : List Token) → AreLexical ts → Each IsSmall ts
all_small [] h = tt
all_small (c ∷ ts) h = (small_kind c.kind h.0.kind, all_small ts h.1)

-- what a text spells can be written
spelled_writable : (file : ℕ) (ds : PlainDecls) (bytes : List ℕ) → Spells file ds bytes → AreWritable ds
spelled_writable file ds bytes (ts, d, text) = file_written file (last_end (terminals bytes ts)) text.written tt (all_lexical bytes file ts whole d)

pub reads_back : (ds : PlainDecls) → ReadsBack ds
reads_back ds file bytes (ts, d, text) to =
    let writable = spelled_writable file ds bytes (ts, d, text) in
    let apart : AreApart (all_lines ds) = all_apart ds writable in
    let us = lines_tokens to 0 (all_lines ds) in
    let there = terminals (lines_text (all_lines ds)) us in
    let tokens : Divides to 0 us whole (lines_text (all_lines ds)) = divided to (all_lines ds) apart in
    let (es, written, most, same) = declarations_back to (last_end there) ds writable there (fits to (all_lines ds) apart) in
    let read : IsText to es there = record {
      written = written;
      height = subst (λ n. n ≤ 200) (sym (same_height ds es same)) text.height;
      nested = omega (arith, most, file_needs text.written, text.nested);
      small = all_small there (all_lexical (lines_text (all_lines ds)) to us whole tokens);
    } in
    (es, subst (Spells to es) (rendered ds) (us, tokens, read), same, same_printed ds es same)
