-- What a token is.
use Rattle.std.specs.Prelude.{Bool, true, false}
use Rattle.cx_text.specs.declared.token.Kind.{Kind}
use Rattle.cx_text.specs.declared.token.Kind.TheVariants.{Word, Number, Quoted, Sign, LineEnd}
use Rattle.cx_text.specs.declared.token.Token.{Token}

abbrev pub is_line_end_kind : Kind → Bool
is_line_end_kind LineEnd = true
is_line_end_kind Word = false
is_line_end_kind Number = false
is_line_end_kind Quoted = false
is_line_end_kind Sign = false

abbrev pub is_word_kind : Kind → Bool
is_word_kind Word = true
is_word_kind LineEnd = false
is_word_kind Number = false
is_word_kind Quoted = false
is_word_kind Sign = false

abbrev pub is_word : Token → Bool
is_word t = is_word_kind t.kind

abbrev pub is_line_end : Token → Bool
is_line_end t = is_line_end_kind t.kind
