pub use Rattle.pt_http_exchange.specs.Answering
pub use Rattle.pt_http_exchange.specs.Exchange
pub use Rattle.pt_http_exchange.specs.Input
pub use Rattle.pt_http_exchange.specs.Message
pub use Rattle.pt_http_inbox.specs.Head
pub use Rattle.pt_http_inbox.specs.Inbox
pub use Rattle.pt_http_inbox.specs.Reads
pub use Rattle.pt_http_rehearsal.specs.Rehearsal
