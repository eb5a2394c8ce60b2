-- Each word is the next one behind the word before it.
use Rattle.icgem_data.proofs.Words.{five_words}
use Rattle.icgem_data.proofs.five_words.Goals as goal

pub returns : goal.returns
returns c =
    five_words
    c.next_word-key.ensures
    c.next_word-degree.ensures
    c.next_word-order.ensures
    c.next_word-c.ensures
    c.next_word-s.ensures
