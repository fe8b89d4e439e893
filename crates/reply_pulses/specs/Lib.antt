pub mod ReplyPulses
